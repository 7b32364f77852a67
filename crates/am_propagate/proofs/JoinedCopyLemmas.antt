-- Mounts that are joined to groups one after another.
use Rattle.std.proofs.Common.{◌≡◌, ◌<◌, ◌+◌, ℕ, List, [], ◌∷◌, ◌++◌, length, take, drop, get_or, Option, Some, refl, sym, ap, subst, ◌∙◌, append_assoc, arith}
use Rattle.std.specs.Prelude.{filter_map}
use Rattle.std.proofs.lemmas.List.{append-nil, take-append-drop}
use Rattle.std.proofs.lemmas.List.Elements.{filter_map-append}
use Rattle.am_names.specs.{MemberRow}
use Rattle.am_names.specs.PeerGroups.{PeerGroups}
use Rattle.am_group.specs.{IsOrderly, all_added, without_newest}
use Rattle.am_group.proofs.NewestLemmas.{orderly_front}
use Rattle.am_propagate.proofs.CopyingLemmas.{taken_back}
use Rattle.am_propagate.proofs.LoopLemmas.{gives_more}

-- none was joined
pub added_nothing : (s : PeerGroups) → all_added [] [] s ≡ s
added_nothing s = rw (append-nil s.members, append-nil s.groups, plain s.last_group) refl
  where
    plain : (n : ℕ) → n + 0 ≡ n
    plain n = omega arith

-- some more come to those that came
pub added_more : (s : PeerGroups) (xs ys : List MemberRow) → all_added ys [] (all_added xs [] s) ≡ all_added (xs ++ ys) [] s
added_more s xs ys = rw (append_assoc s.members xs ys, append-nil (s.groups ++ []), plain (s.last_group + 0)) refl
  where
    plain : (n : ℕ) → n + 0 ≡ n
    plain n = omega arith

-- those that came are taken back
pub added_back : (s : PeerGroups) (xs : List MemberRow) (n : ℕ) → length xs ≡ n → without_newest n (all_added xs [] s) ≡ s
added_back s xs n long = rw (taken_back s.members xs n long, append-nil s.groups, plain s.last_group) refl
  where
    plain : (n : ℕ) → n + 0 ≡ n
    plain n = omega arith

-- the first of those that come are in order, where all are
pub some_orderly : (s : PeerGroups) (h : ℕ → Option MemberRow) (mounts : List ℕ) (n : ℕ) → IsOrderly (all_added (filter_map h mounts) [] s) → IsOrderly (all_added (filter_map h (take n mounts)) [] s)
some_orderly s h mounts n o =
    orderly_front (all_added (filter_map h mounts) [] s) (s.members ++ filter_map h (take n mounts)) (filter_map h (drop n mounts))
    (subst (λ (xs : List MemberRow). IsOrderly (record (all_added (filter_map h mounts) [] s) { members = xs })) (sym behind) o)
  where
    behind : (s.members ++ filter_map h (take n mounts)) ++ filter_map h (drop n mounts) ≡ s.members ++ filter_map h mounts
    behind =
        append_assoc s.members (filter_map h (take n mounts)) (filter_map h (drop n mounts)) ∙
        ap (λ (xs : List MemberRow). s.members ++ xs) (sym (filter_map-append h (take n mounts) (drop n mounts))) ∙
        ap (λ (xs : List ℕ). s.members ++ filter_map h xs) (take-append-drop n mounts)

-- one more of them comes
pub one_more_joined :
    (s : PeerGroups) (h : ℕ → Option MemberRow) (mounts : List ℕ) (i m : ℕ) → i < length mounts → m ≡ get_or mounts i m →
    (row : MemberRow) → h m ≡ Some row →
    all_added (row ∷ []) [] (all_added (filter_map h (take i mounts)) [] s) ≡ all_added (filter_map h (take (i + 1) mounts)) [] s
one_more_joined s h mounts i m within is row e =
    added_more s (filter_map h (take i mounts)) (row ∷ []) ∙
    ap (λ (xs : List MemberRow). all_added xs [] s) (sym (gives_more h mounts i m within is row e))
