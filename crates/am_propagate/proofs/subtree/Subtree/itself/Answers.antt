use Rattle.std.proofs.Common.{◌≡◌, ◌++◌, ◌∷◌, [], ℕ, Bool, true, false, cond, List, ap, sym, subst, ◌∙◌}
use Rattle.am_propagate.specs.MountTable.{MountTable}
use Rattle.am_propagate.specs.{is_mount, IsWhole}
use Rattle.am_propagate.proofs.RemovalLemmas.{itself_only}
use Rattle.am_propagate.proofs.subtree.Subtree.itself.Goals as goal

pub returns-then-not-is_mount-clause-exact : goal.returns-then-not-is_mount-clause-exact
returns-then-not-is_mount-clause-exact c =
    let t = c.args.self.now in
    let m = c.args.mount in
    let whole : IsWhole t = subst (λ (x : MountTable). IsWhole x) c.self.view_is c.self.invariant in
    let there : is_mount t m ≡ false = cc in
    c.new-found.ensures.items ∙ sym (itself_only t m whole ∙ ap (λ (b : Bool). cond b (m ∷ []) []) there)

pub returns-clause-exact : goal.returns-clause-exact
returns-clause-exact c =
    let t = c.args.self.now in
    let m = c.args.mount in
    let whole : IsWhole t = subst (λ (x : MountTable). IsWhole x) c.self.view_is c.self.invariant in
    let there : is_mount t m ≡ true = cc in
    c.in_ok-push.ensures.items ∙ ap (λ (xs : List ℕ). xs ++ m ∷ []) c.new-found.ensures.items ∙
    sym (itself_only t m whole ∙ ap (λ (b : Bool). cond b (m ∷ []) []) there)
