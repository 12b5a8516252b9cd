use Rattle.l4sh_options.proofs.Subcommands.{reads_run, reads_check, reads_part, reads_chart, reads_state, reads_script, reads_count, reads_follow, reads_talk, reads_migrate}
use Rattle.l4sh_options.proofs.shell.options_in.Goals as goal

pub returns-in-run-clause-found : goal.returns-in-run-clause-found
returns-in-run-clause-found c reads = c.run_options.ensures.found (reads_run c.args.name.now _ c.in-run.is reads)

pub returns-in-check-clause-found : goal.returns-in-check-clause-found
returns-in-check-clause-found c reads = c.check_options.ensures.found (reads_check c.args.name.now _ c.in-check.is reads)

pub returns-in-part-clause-found : goal.returns-in-part-clause-found
returns-in-part-clause-found c reads = c.part_options.ensures.found (reads_part c.args.name.now _ c.in-part.is reads)

pub returns-in-chart-clause-found : goal.returns-in-chart-clause-found
returns-in-chart-clause-found c reads = c.chart_options.ensures.found (reads_chart c.args.name.now _ c.in-chart.is reads)

pub returns-in-state-clause-found : goal.returns-in-state-clause-found
returns-in-state-clause-found c reads = c.state_options.ensures.found (reads_state c.args.name.now _ c.in-state.is reads)

pub returns-in-script-clause-found : goal.returns-in-script-clause-found
returns-in-script-clause-found c reads = c.script_options.ensures.found (reads_script c.args.name.now _ c.in-script.is reads)

pub returns-in-count-clause-found : goal.returns-in-count-clause-found
returns-in-count-clause-found c reads = c.count_options.ensures.found (reads_count c.args.name.now _ c.in-count.is reads)

pub returns-in-follow-clause-found : goal.returns-in-follow-clause-found
returns-in-follow-clause-found c reads = c.follow_options.ensures.found (reads_follow c.args.name.now _ c.in-follow.is reads)

pub returns-in-talk-clause-found : goal.returns-in-talk-clause-found
returns-in-talk-clause-found c reads = c.talk_options.ensures.found (reads_talk c.args.name.now _ c.in-talk.is reads)

pub returns-in-migrate-clause-found : goal.returns-in-migrate-clause-found
returns-in-migrate-clause-found c reads = c.migrate_options.ensures.found (reads_migrate c.args.name.now _ c.in-migrate.is reads)
