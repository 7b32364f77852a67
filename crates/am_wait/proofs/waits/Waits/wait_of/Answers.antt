use Rattle.std.proofs.Common.{◌≡◌, None, Some, sym, ap, ◌∙◌}
use Rattle.std.specs.Option.{option_map}
use Rattle.am_wait.specs.{Seat, WaitRows, wait_of, key_of, row_at}
use Rattle.am_wait.proofs.SeatLemmas.{no_key}
use Rattle.am_wait.proofs.KeptLemmas.{wait_found, wait_at}
use Rattle.am_wait.proofs.waits.Waits.wait_of.Goals as goal

pub returns-in_default-clause-wait : goal.returns-in_default-clause-wait
returns-in_default-clause-wait c =
    let i = c.self.inside in
    let none : key_of i.seats.rows c.args.walker ≡ None = sym c.key_of.ensures ∙ c.in_default.is in
    sym (ap (λ (x : WaitRows). wait_of x.waits c.args.walker) (sym c.self.view_is) ∙ wait_found i.slab i.seats.rows c.args.walker c.self.invariant.linked.seated ∙ ap (option_map (λ (s : Seat). row_at i.slab s.key)) (no_key i.seats.rows c.args.walker none))

pub returns-clause-wait : goal.returns-clause-wait
returns-clause-wait c =
    let i = c.self.inside in
    let some : key_of i.seats.rows c.args.walker ≡ Some c.in-Some.key = sym c.key_of.ensures ∙ c.in-Some.is in
    c.copied.ensures ∙ c.get.ensures ∙ wait_at i.slab i.seats.rows c.args.walker c.in-Some.key c.self.invariant.linked.seated some ∙ ap (λ (x : WaitRows). wait_of x.waits c.args.walker) c.self.view_is
