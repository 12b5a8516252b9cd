-- The fields of a tag that is asked for.
use Rattle.std.specs.Prelude.{◌*◌, false}
use Rattle.ipc_words.specs.declared.tag_fields.TagFields.{TagFields}
use Rattle.l4sh_explain.specs.declared.tags.TagRequest.{TagRequest}

-- a string has two typed words
abbrev pub requested : TagRequest → TagFields
requested request = record {
  untyped = request.words;
  typed = 2 * request.strings;
  propagated = request.is_propagated;
  redirected = false;
  crossed = false;
  failed = false;
  label = request.label;
}
