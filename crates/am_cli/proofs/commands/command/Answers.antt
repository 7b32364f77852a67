use Rattle.std.proofs.lemmas.Result.{IfOk-weaker}
use Rattle.am_cli.specs.{IsCommand, script_app, trace_app, draw_app, world_app, serve_app, explore_app, judge_app}
use Rattle.am_cli.specs.{import_app, threads_app, help_app}
use Rattle.clap.specs.Words.{App}
use Rattle.clap.specs.declared.builder.command.Command.{Command}
use Rattle.am_cli.proofs.CommandLemmas.{adds}
use Rattle.am_cli.proofs.commands.command.Goals as goal

pub returns : goal.returns
returns c =
    let script : IsCommand script_app c.new.result = record { shape = c.new.ensures.app; local = c.new.ensures.local } in
    let one = adds _ _ _ _ script_app c.bare_program.ensures script c.in_ok-subcommand.ensures in
    let two = adds _ _ _ _ trace_app one c.in_ok-trace_command.ensures c.in_ok-subcommand-2.ensures in
    let three = adds _ _ _ _ draw_app two c.in_ok-draw_command.ensures c.in_ok-subcommand-3.ensures in
    let four = adds _ _ _ _ world_app three c.in_ok-world_command.ensures c.in_ok-subcommand-4.ensures in
    let serve : IsCommand serve_app c.new-2.result = record { shape = c.new-2.ensures.app; local = c.new-2.ensures.local } in
    let five = adds _ _ _ _ serve_app four serve c.in_ok-subcommand-5.ensures in
    let six = adds _ _ _ _ explore_app five c.in_ok-explore_command.ensures c.in_ok-subcommand-6.ensures in
    let judge : IsCommand judge_app c.new-3.result = record { shape = c.new-3.ensures.app; local = c.new-3.ensures.local } in
    let seven = adds _ _ _ _ judge_app six judge c.in_ok-subcommand-7.ensures in
    let imports : IsCommand import_app c.new-4.result = record { shape = c.new-4.ensures.app; local = c.new-4.ensures.local } in
    let eight = adds _ _ _ _ import_app seven imports c.in_ok-subcommand-8.ensures in
    let nine = adds _ _ _ _ threads_app eight c.in_ok-threads_command.ensures c.in_ok-subcommand-9.ensures in
    IfOk-weaker c.subcommand-10.result _ _
    (λ all added. adds _ _ all _ help_app nine c.in_ok-help_command.ensures added) c.subcommand-10.ensures
