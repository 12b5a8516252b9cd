-- The bytes of a frame that are held.
use Rattle.std.proofs.Common.{◌≡◌, ◌⊎◌, inl, inr, ℕ, zero, suc, ◌+◌, ◌-◌, ◌<◌, ◌≤◌, ◌^◌, ◌==◌, min, List, [], ◌++◌, length, take, refl, sym, ap, ◌∙◌, arith, length-append}
use Rattle.std.proofs.lemmas.List.{append-nil, nil_from_length, length-take-le}
use Rattle.std.proofs.lemmas.Bool.{cases_Bool, eqb-true, eqb-false, eq-eqb, ne_eqb}
use Rattle.std.proofs.lemmas.Slice.{take-put_mid, take-put_mid_below}
use borrow.Rule.Slice.PartMut.{put_mid}
use Rattle.ipc_connection.specs.Holding.{Keeps, start_size}

-- what comes before a payload, as far as that can be seen
abbrev pub StartIs : List ℕ → ℕ → ℕ → Type 0
StartIs start len limit = ((len < 50) × (limit ≡ 50)) ⊎ ((50 ≤ len) × (limit ≡ start_size (take 50 start)))

pub start_low : (head : List ℕ) → 50 ≤ start_size head
start_low head = omega arith

pub start_high : (head : List ℕ) → start_size head ≤ 810
start_high head = omega arith

-- bytes that are put into the start
module _ (start payload : List ℕ) (len lost count n limit : ℕ) (bytes part : List ℕ) (told : length start ≡ 810) (copied : part ≡ take count bytes) (short : len < limit) (count_is : count ≡ min (limit - len) (length bytes)) (n_is : n ≡ (len + count) - len) (below : 50 ≤ len → len ≤ start_size (take 50 start)) (behind : 0 < length payload + lost → (50 ≤ len) × (start_size (take 50 start) ≤ len)) (small : length payload + lost < 2 ^ 32) (known : StartIs start len limit) where
  abbrev new : List ℕ
  new = put_mid len n start part

  few : (len + count ≤ limit) × (limit ≤ 810)
  few = elim known [
    | inl k ↦ (omega (arith, k.1), omega (arith, k.1))
    | inr k ↦ (omega arith, omega (arith, k.1, start_high (take 50 start)))
  ]

  none_behind : length payload + lost ≡ 0
  none_behind = go (length payload + lost) behind
    where
      go : (k : ℕ) → (0 < k → (50 ≤ len) × (start_size (take 50 start) ≤ len)) → k ≡ 0
      go zero h = refl
      go (suc k) h =
          let b = h (omega arith) in
          elim known [
            | inl s ↦ absurd (omega (arith, b.0, s.0))
            | inr s ↦ absurd (omega (arith, b.1, s.1))
          ]

  size_there : 50 ≤ len + count → len + count ≤ start_size (take 50 new)
  size_there there = elim known [
    | inl k ↦ omega (arith, few.0, k.1, start_low (take 50 new))
    | inr k ↦
        let same : take 50 new ≡ take 50 start = take-put_mid_below len n start part 50 k.0 (omega (arith, few.0, few.1)) in
        rw same (omega (arith, few.0, k.1))
  ]

  pub start_grows : (len + count ≤ 810) × (50 ≤ len + count → len + count ≤ start_size (take 50 new)) × (0 < length payload + lost → (50 ≤ len + count) × (start_size (take 50 new) ≤ len + count)) × (length payload + lost < 2 ^ 32)
  start_grows = (omega (arith, few.0, few.1), size_there, λ some. absurd (omega (arith, some, none_behind)), small)

  pub keeps_start : Keeps (record { bytes = take len start ++ payload; lost = lost }) (take count bytes) (record { bytes = take (len + count) new ++ payload; lost = lost })
  keeps_start =
      let no_payload : payload ≡ [] = nil_from_length payload (omega (arith, none_behind)) in
      let taken : length part ≡ count = ap length copied ∙ length-take-le count bytes (omega arith) in
      let front : take (len + count) new ≡ take len start ++ part = take-put_mid len n start part (len + count) (omega (arith, taken)) (omega (arith, few.0, few.1)) in
      let old : take len start ++ payload ≡ take len start = ap (λ p. take len start ++ p) no_payload ∙ append-nil (take len start) in
      let now : take (len + count) new ++ payload ≡ take (len + count) new = ap (λ p. take (len + count) new ++ p) no_payload ∙ append-nil (take (len + count) new) in
      inl (omega (arith, none_behind), omega (arith, none_behind), now ∙ (front ∙ (ap (λ p. take len start ++ p) copied ∙ ap (λ s. s ++ take count bytes) (sym old))))

nothing_more : (more size : ℕ) → size ≡ 0 → (0 < more → 50 ≤ size) → more ≡ 0
nothing_more zero size e h = refl
nothing_more (suc more) size e h = let low = h (omega arith) in absurd (omega (arith, low, e))

pub empty_is : (len lost : ℕ) (start payload : List ℕ) → length (take len start) ≡ len → (0 < length payload + lost → 50 ≤ len) → (length (take len start) == 0) ≡ (length (take len start ++ payload) + lost == 0)
empty_is len lost start payload taken h =
    let total = length-append (take len start) payload in
    elim (cases_Bool (length (take len start) == 0)) [
      | inl none ↦
          let zero_len = eqb-true (length (take len start)) 0 none in
          let gone = nothing_more (length payload + lost) len (omega (arith, taken, zero_len)) h in
          let all : length (take len start ++ payload) + lost ≡ 0 = omega (arith, total, zero_len, gone) in
          none ∙ sym (eq-eqb _ 0 all)
      | inr some ↦
          let big = eqb-false (length (take len start)) 0 some in
          some ∙ sym (ne_eqb _ 0 (λ e. omega (arith, e, total, big)))
    ]
