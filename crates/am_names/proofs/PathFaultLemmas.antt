-- A text is read as its first fault, or as its names.
use Rattle.std.proofs.Common.{◌≡◌, ℕ, ◌≤◌, Bool, true, false, cond, not, ◌==◌, List, [], ◌∷◌, length, Option, Some, None, Ok, Err, refl, sym, arith}
use Rattle.std.specs.Prelude.{Result, nat_lt}
use Rattle.std.specs.List.{list_all, filter}
use Rattle.std.proofs.lemmas.Bool.Decides.{nat_tests}
use Rattle.am_names.specs.declared.errno.Errno.{Errno}
use Rattle.am_names.specs.declared.errno.Errno.TheVariants.{ENAMETOOLONG, EINVAL}
use Rattle.am_names.specs.{name_read, is_name, path_read, parts_read, parts_of, names_of, with_name, begins_with_slash, name_fault, part_fault, fault_or, first_fault, AreNames}
use Rattle.am_names.proofs.Basics.{and_of_both}

-- the parts that are not empty
abbrev long : List (List ℕ) → List (List ℕ)
long parts = filter (λ part. not (length part == 0)) parts

-- the fault, or else what was read
abbrev read_by : {T : Type 0} → Option Errno → T → Result T Errno
read_by (Some e) read = Err e
read_by None read = Ok read

name_told : (name : List ℕ) → name_read name ≡ read_by (name_fault name) name
name_told name = go (nat_lt 255 (length name)) (is_name name)
  where
    go : (long valid : Bool)
        → ◌≡◌ {A = Result (List ℕ) Errno} (cond long (Err ENAMETOOLONG) (cond valid (Ok name) (Err EINVAL)))
        (read_by (cond long (Some ENAMETOOLONG) (cond valid None (Some EINVAL))) name)
    go true valid = refl
    go false true = refl
    go false false = refl

with_name_read : (f g : Option Errno) (name : List ℕ) (names : List (List ℕ))
    → with_name (read_by f name) (read_by g names) ≡ read_by (fault_or f g) (name ∷ names)
with_name_read (Some e) (Some f) name names = refl
with_name_read (Some e) None name names = refl
with_name_read None (Some f) name names = refl
with_name_read None None name names = refl

-- parts are read as their first fault, or as the names among them
parts_told : (parts : List (List ℕ)) → parts_read parts ≡ read_by (first_fault parts) (long parts)
parts_told [] = refl
parts_told (part ∷ parts) =
    go (length part == 0) (name_read part) (name_told part) (parts_read parts) (parts_told parts)
  where
    go : (empty : Bool) (read : Result (List ℕ) Errno) → read ≡ read_by (name_fault part) part
        → (others : Result (List (List ℕ)) Errno) → others ≡ read_by (first_fault parts) (long parts)
        → cond empty others (with_name read others)
        ≡ read_by (fault_or (cond empty None (name_fault part)) (first_fault parts))
        (cond (not empty) (part ∷ long parts) (long parts))
    go true read e others ih = ih
    go false read e others ih =
        rw (e, ih) (with_name_read (name_fault part) (first_fault parts) part (long parts))

name_sound : (long valid : Bool)
    → ◌≡◌ {A = Option Errno} (cond long (Some ENAMETOOLONG) (cond valid None (Some EINVAL))) None
    → valid ≡ true
name_sound true valid h = absurd cc
name_sound false true h = refl
name_sound false false h = absurd cc

no_fault_in_either : (f g : Option Errno) → fault_or f g ≡ None → (f ≡ None) × (g ≡ None)
no_fault_in_either (Some e) g h = absurd cc
no_fault_in_either None g h = (refl, h)

-- parts without a fault are names, but for the empty ones
parts_sound : (parts : List (List ℕ)) → first_fault parts ≡ None
    → list_all is_name (long parts) ≡ true
parts_sound [] h = refl
parts_sound (part ∷ parts) h =
    let two = no_fault_in_either (part_fault part) (first_fault parts) h in
    go (length part == 0) two.0 (parts_sound parts two.1)
  where
    go : (empty : Bool) → ◌≡◌ {A = Option Errno} (cond empty None (name_fault part)) None
        → list_all is_name (long parts) ≡ true
        → list_all is_name (cond (not empty) (part ∷ long parts) (long parts)) ≡ true
    go true e ih = ih
    go false e ih =
        and_of_both (is_name part) (list_all is_name (long parts))
        (name_sound (nat_lt 255 (length part)) (is_name part) e) ih

-- a text of the right length behind a slash is read as its parts are
pub text_told : (bytes : List ℕ) (f : Option Errno) → begins_with_slash bytes ≡ true
    → length bytes ≤ 4095 → f ≡ first_fault (parts_of bytes)
    → path_read bytes ≡ read_by f (names_of bytes)
text_told bytes f slash short e =
    let fits : nat_lt 4095 (length bytes) ≡ false = grind (arith, nat_tests, short) in
    rw (slash, fits, e) (parts_told (parts_of bytes))

-- a text without a fault spells names
pub text_sound : (bytes : List ℕ) → None ≡ first_fault (parts_of bytes) → AreNames bytes
text_sound bytes e = parts_sound (parts_of bytes) (sym e)
