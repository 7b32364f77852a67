use Rattle.std.proofs.Common.{Option, length, ap, ◌∙◌, sym, subst}
use Rattle.am_script.specs.{ScriptFaultKind, end_of_head, script_from}
use Rattle.am_script.proofs.Answering.{EndsSo}
use Rattle.am_script.proofs.PlayerLemmas.{head_is_ended, events_are_ended, events_are_broken, end_ok, end_err}
use Rattle.am_script.proofs.player.Player.end.Goals as goal

pub returns-in-Head-clause-ok : goal.returns-in-Head-clause-ok
returns-in-Head-clause-ok g c =
    let self = c.args.self.now in
    end_ok self c.args.broke _ _ c.end_head.result (λ form front start stands.
    head_is_ended form self.place c.in-Head.heading self.number self.summary self.output front start _ c.args.broke c.end_head.result c.in-Head.is (c.end_head.ensures ∙ ap (λ s. end_of_head c.args.broke s self.number) c.section.ensures) stands)

pub returns-in-Head-clause-err : goal.returns-in-Head-clause-err
returns-in-Head-clause-err g c =
    let self = c.args.self.now in
    end_err self c.args.broke _ _ c.end_head.result (λ form front start stands.
    head_is_ended form self.place c.in-Head.heading self.number self.summary self.output front start _ c.args.broke c.end_head.result c.in-Head.is (c.end_head.ensures ∙ ap (λ s. end_of_head c.args.broke s self.number) c.section.ensures) stands)

pub returns-in-None-clause-ok : goal.returns-in-None-clause-ok
returns-in-None-clause-ok g c =
    let self = c.args.self.now in
    let contents = g.W.Write.contents in
    end_ok self c.args.broke _ _ c.close.result (λ form front start stands.
    subst (λ (b : Option ScriptFaultKind). EndsSo form (length front) (script_from b front) start (contents c.close.new.writer) c.close.result) (sym c.in-None.is)
    (events_are_ended form self.place _ self.number self.summary self.output front start (contents c.args.writer.now) (contents c.close.new.writer) c.close.result c.in-Events.is c.close.ensures.closes stands))

pub returns-in-None-clause-err : goal.returns-in-None-clause-err
returns-in-None-clause-err g c =
    let self = c.args.self.now in
    let contents = g.W.Write.contents in
    end_err self c.args.broke _ _ c.close.result (λ form front start stands.
    subst (λ (b : Option ScriptFaultKind). EndsSo form (length front) (script_from b front) start (contents c.close.new.writer) c.close.result) (sym c.in-None.is)
    (events_are_ended form self.place _ self.number self.summary self.output front start (contents c.args.writer.now) (contents c.close.new.writer) c.close.result c.in-Events.is c.close.ensures.closes stands))

pub returns-in-Some-clause-err : goal.returns-in-Some-clause-err
returns-in-Some-clause-err g c =
    let self = c.args.self.now in
    let contents = g.W.Write.contents in
    end_err self c.args.broke _ _ c.close-in-Some.result (λ form front start stands.
    subst (λ (b : Option ScriptFaultKind). EndsSo form (length front) (script_from b front) start (contents c.close-in-Some.new.writer) c.close-in-Some.result) (sym c.in-Some.is)
    (events_are_broken form self.place _ self.number self.summary self.output front start (contents c.args.writer.now) (contents c.close-in-Some.new.writer) c.in-Some.kind c.close-in-Some.result c.in-Events.is c.close-in-Some.ensures.closes stands))
