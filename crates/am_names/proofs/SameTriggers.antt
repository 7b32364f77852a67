-- Triggers that are one, and triggers as keys of an index.
use Rattle.std.proofs.Common.{◌≡◌, ◌-◌, ℕ, Bool, true, ◌&&◌, ◌==◌, List, length, take, replicate, Option, Some, None, refl, sym, ap, subst, ◌∙◌}
use Rattle.std.specs.Bool.{Decides}
use Rattle.std.specs.Option.{option_eq}
use Rattle.std.specs.Str.{bytes_eq}
use Rattle.std.proofs.Math.Seq.{take-append_seam}
use Rattle.std.proofs.lemmas.Bool.Decides.{Decides-eqb, same_from_decides}
use Rattle.std.proofs.lemmas.Slice.Eq.{bytes_eq-Decides}
use Rattle.am_names.specs.{padded, same_trigger, same_name, eq-value}
use Rattle.am_names.specs.declared.trigger.Trigger.{Trigger}
use Rattle.am_names.specs.contracts.name.NamePartialEq.TheImpl.{eq-value as name_eq}
use Rattle.am_names.proofs.Basics.{both_of_and, and_of_both}

equal_by_same_name : (a b : Option (List ℕ)) → same_name a b ≡ true → a ≡ b
equal_by_same_name None None h = refl
equal_by_same_name None (Some b) h = absurd cc
equal_by_same_name (Some a) None h = absurd cc
equal_by_same_name (Some a) (Some b) h = ap (λ (bytes : List ℕ). Some bytes) ((bytes_eq-Decides a b).0 h)

same_name_itself : (a : Option (List ℕ)) → same_name a a ≡ true
same_name_itself None = refl
same_name_itself (Some a) = (bytes_eq-Decides a a).1 refl

pub equal_by_same_trigger : (a b : Trigger) → same_trigger a b ≡ true → a ≡ b
equal_by_same_trigger a b h =
    let two = both_of_and (a.fs == b.fs) (same_name a.name b.name) h in
    let make : ℕ → Option (List ℕ) → Trigger = λ fs name. record { fs = fs; name = name } in
    ap (λ (fs : ℕ). make fs a.name) ((Decides-eqb a.fs b.fs).0 two.0) ∙ ap (make b.fs) (equal_by_same_name a.name b.name two.1)

pub same_trigger_itself : (a : Trigger) → same_trigger a a ≡ true
same_trigger_itself a = and_of_both (a.fs == a.fs) (same_name a.name a.name) ((Decides-eqb a.fs a.fs).1 refl) (same_name_itself a.name)

-- the test tells whether two triggers are one
pub same_trigger-Decides : (a b : Trigger) → Decides (same_trigger a b) (a ≡ b)
same_trigger-Decides a b = (equal_by_same_trigger a b, λ e. subst (λ (x : Trigger). same_trigger a x ≡ true) e (same_trigger_itself a))

pub same_trigger_either_way : (a b : Trigger) → same_trigger a b ≡ same_trigger b a
same_trigger_either_way a b = same_from_decides (same_trigger a b) (same_trigger b a) (same_trigger-Decides a b) ((λ h. sym (equal_by_same_trigger b a h)), (λ e. (same_trigger-Decides b a).1 (sym e)))

-- ---- keys of an index

-- a name's bytes stand before the zeros
unpadded : (name : List ℕ) → take (length name) (padded name) ≡ name
unpadded name = take-append_seam name (replicate (255 - length name) 0)

name_eq-Decides : (x y : List ℕ) → Decides (name_eq.it x y) (x ≡ y)
name_eq-Decides x y = (one, λ e. subst (λ (z : List ℕ). name_eq.it x z ≡ true) e itself)
  where
    one : name_eq.it x y ≡ true → x ≡ y
    one h =
        let two = both_of_and (bytes_eq (padded x) (padded y)) (length x == length y) h in
        let bytes : padded x ≡ padded y = (bytes_eq-Decides (padded x) (padded y)).0 two.0 in
        let long : length x ≡ length y = (Decides-eqb (length x) (length y)).0 two.1 in
        sym (unpadded x) ∙ ap (λ (n : ℕ). take n (padded x)) long ∙ ap (take (length y)) bytes ∙ unpadded y

    itself : name_eq.it x x ≡ true
    itself = and_of_both (bytes_eq (padded x) (padded x)) (length x == length x) ((bytes_eq-Decides (padded x) (padded x)).1 refl) ((Decides-eqb (length x) (length x)).1 refl)

names_eq_is_same_name : (a b : Option (List ℕ)) → option_eq name_eq.it a b ≡ same_name a b
names_eq_is_same_name None None = refl
names_eq_is_same_name None (Some b) = refl
names_eq_is_same_name (Some a) None = refl
names_eq_is_same_name (Some a) (Some b) = same_from_decides (name_eq.it a b) (bytes_eq a b) (name_eq-Decides a b) (bytes_eq-Decides a b)

-- the index tells triggers apart as `same_trigger` does
pub key_is_same_trigger : (a b : Trigger) → eq-value.it a b ≡ same_trigger b a
key_is_same_trigger a b = ap (λ (t : Bool). (a.fs == b.fs) && t) (names_eq_is_same_name a.name b.name) ∙ same_trigger_either_way a b

-- the index tells whether two triggers are one
pub key_decides : (a b : Trigger) → Decides (eq-value.it a b) (a ≡ b)
key_decides a b =
    let same : eq-value.it a b ≡ same_trigger b a = key_is_same_trigger a b in
    let one : Decides (same_trigger b a) (b ≡ a) = same_trigger-Decides b a in
    (λ h. sym (one.0 (sym same ∙ h)), λ e. same ∙ one.1 (sym e))
