use Rattle.std.proofs.Common.{◌≡◌, ◌-◌, ℕ, List, Bool, true, drop, ap, ◌∙◌, sym, arith}
use Rattle.std.specs.Prelude.{◌||◌}
use Rattle.std.specs.List.{list_any}
use Rattle.am_names.specs.{same_names}
use Rattle.am_daemon.proofs.ByFsLemmas.{any_of_all, any_with}
use Rattle.am_daemon.proofs.known.any_is_at.Goals as goal

pub returns-then-is_at_index : goal.returns-then-is_at_index
returns-then-is_at_index c =
    let entries = c.args.places.now.entries in
    let test : (ℕ × List (List ℕ)) → Bool = λ row. same_names row.1 c.args.path.now in
    let n = c.loop-left.left in
    let there : list_any test (drop (n - 1) entries) ≡ true =
    any_with test entries (n - 1) n c.is_at_index.result (omega (arith, c.loop-left-test.true)) c.loop-left.invariant.within c.is_at_index.ensures
    ∙ ap (λ (b : Bool). b || list_any test (drop n entries)) c.if-is_at_index.true in
    sym (any_of_all test entries (n - 1) there)

pub loop-left-preserved : goal.loop-left-preserved
loop-left-preserved c =
    let entries = c.args.places.now.entries in
    let test : (ℕ × List (List ℕ)) → Bool = λ row. same_names row.1 c.args.path.now in
    let n = c.loop-left.left in
    record {
      within = omega (arith, c.loop-left.invariant.within);
      none =
          any_with test entries (n - 1) n c.is_at_index.result (omega (arith, c.loop-left-test.true)) c.loop-left.invariant.within c.is_at_index.ensures
          ∙ ap (λ (b : Bool). b || list_any test (drop n entries)) c.if-is_at_index.false
          ∙ c.loop-left.invariant.none;
    }
