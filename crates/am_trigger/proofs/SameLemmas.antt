-- Rows that `==` tells apart, and entries that are known by half of them.
use Rattle.std.proofs.Common.{rules, tests, ◌≡◌, ℕ, List, [], ◌∷◌, refl, sym, ap, ◌∙◌}
use Rattle.std.specs.Bool.{Decides}
use Rattle.std.specs.Map.{keys_of, values_of}
use Rattle.am_names.specs.declared.trigger.Trigger.{Trigger}
use Rattle.am_trigger.specs.declared.autofs.Autofs.{Autofs}
use Rattle.am_trigger.specs.declared.failures.Failure.{Failure}
use Rattle.am_trigger.specs.contracts.autofs.AutofsPartialEq.TheImpl.{eq-value as autofs_eq}
use Rattle.am_trigger.specs.contracts.failures.FailurePartialEq.TheImpl.{eq-value as failure_eq}
use Rattle.am_trigger.specs.FileSystemView.{AreAtTheirs}

-- `==` tells whether two failures are the same
pub failure_decides : (a b : Failure) → Decides (failure_eq.it a b) (a ≡ b)
failure_decides a b = search (rules, tests)

-- `==` tells whether two file systems are the same
pub autofs_decides : (a b : Autofs) → Decides (autofs_eq.it a b) (a ≡ b)
autofs_decides a b = search (rules, tests)

-- file systems are known by their rows, each of which has its number
pub known_by_values : (es fs : List (ℕ × Autofs)) → AreAtTheirs es → AreAtTheirs fs → values_of es ≡ values_of fs → es ≡ fs
known_by_values [] [] h g same = refl
known_by_values [] (f ∷ fs) h g same = absurd cc
known_by_values (e ∷ es) [] h g same = absurd cc
known_by_values (e ∷ es) (f ∷ fs) h g same =
    let row : e.1 ≡ f.1 = cc in
    let number : e.0 ≡ f.0 = h.0 ∙ ap (λ (r : Autofs). r.fs) row ∙ sym g.0 in
    let first : e ≡ f = ap (λ (n : ℕ). (n, e.1)) number ∙ ap (λ (r : Autofs). (f.0, r)) row in
    ap (λ (entry : ℕ × Autofs). entry ∷ es) first ∙ ap (λ (others : List (ℕ × Autofs)). f ∷ others) (known_by_values es fs h.1 g.1 cc)

-- directories are known by their triggers
pub known_by_keys : (es fs : List (Trigger × Unit {0})) → keys_of es ≡ keys_of fs → es ≡ fs
known_by_keys [] [] same = refl
known_by_keys [] (f ∷ fs) same = absurd cc
known_by_keys (e ∷ es) [] same = absurd cc
known_by_keys (e ∷ es) (f ∷ fs) same =
    let key : e.0 ≡ f.0 = cc in
    let first : e ≡ f = ap (λ (t : Trigger). (t, tt {0})) key in
    ap (λ (entry : Trigger × Unit {0}). entry ∷ es) first ∙ ap (λ (others : List (Trigger × Unit {0})). f ∷ others) (known_by_keys es fs cc)
