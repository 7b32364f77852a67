-- Nothing is received from a mount that is in no peer group.
use Rattle.std.proofs.Common.{◌≡◌, ◌<◌, ◌↔◌, ℕ, Bool, false, List, [], ◌∷◌, Some, None, refl, sym, ◌∙◌, arith}
use Rattle.std.specs.Prelude.{filter, not, ◌==◌}
use Rattle.std.specs.List.{Contains}
use Rattle.am_names.proofs.Basics.{and_false}
use Rattle.am_names.specs.PeerGroups.{PeerGroups}
use Rattle.am_group.specs.{group_of, Receives, numbers, receives, receivers_of}
use Rattle.am_group.proofs.ReceiveLemmas.{under_from_way}

-- without a group nothing is received from the mount
pub none_exact :
    (s : PeerGroups) (b : ℕ) → group_of s b ≡ None → (c : ℕ) → Contains [] c ↔ Receives s b c
none_exact s b none c = (
  λ h. let i : h.0 < 0 = h.1 in absurd (omega arith),
  λ r.
      let from = under_from_way s r.way b c r.arrives in
      let bad : None ≡ Some from.0 = sym none ∙ from.1 in
      absurd cc,
)

filter_false : (p : ℕ → Bool) (xs : List ℕ) → ((c : ℕ) → p c ≡ false) → [] ≡ filter p xs
filter_false p [] never = refl
filter_false p (x ∷ xs) never = rw (never x) (filter_false p xs never)

pub none_listed : (s : PeerGroups) (b : ℕ) → group_of s b ≡ None → [] ≡ receivers_of s b
none_listed s b none =
    filter_false (receives s b) (numbers s.members) (λ c. rw none (and_false (not (c == b))))
