use Rattle.std.proofs.Common.{◌≢◌, ◌==◌, None, length, sym, ap, ◌∙◌, arith}
use Rattle.std.specs.Option.{option_map}
use Rattle.am_wait.specs.{Seat, seat_of}
use Rattle.am_wait.proofs.CallLemmas.{all_kept}
use Rattle.am_wait.proofs.SeatLemmas.{no_key}
use Rattle.am_wait.proofs.RisingLemmas.{others_of}
use Rattle.am_wait.proofs.seats.waits_of_others.Goals as goal

pub returns-in-Some : goal.returns-in-Some
returns-in-Some c =
    let there : seat_of c.args.seats.now.rows c.args.walker ≢ None = λ none. absurd (cc (sym c.in-Some.is ∙ c.key_of.ensures ∙ ap (option_map (λ (s : Seat). s.key)) none)) in
    omega (arith, others_of (λ (s : Seat). s.walker) c.args.walker 0 c.args.seats.now.rows c.requires.rising there)

pub returns-in-None : goal.returns-in-None
returns-in-None c = c.len-in-None.ensures ∙ sym (ap length (all_kept (λ (s : Seat). s.walker == c.args.walker) c.args.seats.now.rows (no_key c.args.seats.now.rows c.args.walker (sym c.key_of.ensures ∙ c.in-None.is))))
