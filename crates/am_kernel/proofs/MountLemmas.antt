-- What an unmount and a new file system leave of the kernel.
use Rattle.std.proofs.Common.{◌≡◌, ◌≤◌, ◌<◌, ◌+◌, ◌==◌, ◌∷◌, ◌++◌, [], ℕ, Bool, true, false, List, Option, Some, None, refl, sym, ap, ◌∙◌, arith, length, take, get_or}
use Rattle.std.specs.Prelude.{is_some, find, if◌then◌else◌}
use Rattle.std.specs.List.{All, flat_map}
use Rattle.std.proofs.lemmas.List.{take_more, flat_map_more}
use Rattle.std.proofs.lemmas.Bool.Decides.{Decides-eqb}
use Rattle.std.proofs.lemmas.List.Elements.{All-push, All-weaker, All-head, All-tail}
use Rattle.am_names.specs.declared.errno.Errno.TheVariants.{EEXIST}
use Rattle.am_state.specs.{QueuedRow}
use Rattle.am_propagate.specs.MountTable.{MountTable}
use Rattle.am_trigger.specs.{Autofs, TriggerRows, add_refusal}
use Rattle.am_kernel.specs.{KernelState}

-- ---- fields that are changed

abbrev pub with_queue : KernelState → List QueuedRow → KernelState
with_queue k queue = record k { queue = queue }

abbrev pub with_table : KernelState → MountTable → KernelState
with_table k table = record k { table = table }

-- ---- the numbers of file systems

pub differs_from_next : (n last : ℕ) → n ≤ last → (n == last + 1) ≡ false
differs_from_next n last h = differs_by_test (n == last + 1) refl
  where
    differs_by_test : (b : Bool) → (n == last + 1) ≡ b → b ≡ false
    differs_by_test true e = let same : n ≡ last + 1 = (Decides-eqb n (last + 1)).0 e in absurd (omega arith)
    differs_by_test false e = refl

none_numbered : (last : ℕ) (rows : List Autofs) → All (λ (row : Autofs). row.fs ≤ last) rows → find (λ row. row.fs == last + 1) rows ≡ None
none_numbered last [] all = refl
none_numbered last (row ∷ rows) all =
    rw (differs_from_next row.fs last (All-head (λ (r : Autofs). r.fs ≤ last) row rows all)) (none_numbered last rows (All-tail (λ (r : Autofs). r.fs ≤ last) row rows all))

-- the number of the next file system is new
pub next_is_new : (last : ℕ) (t : TriggerRows) → All (λ (row : Autofs). row.fs ≤ last) t.autofs → add_refusal (last + 1) t ≡ None
next_is_new last t all = ap (λ (o : Option Autofs). if is_some o then Some EEXIST else None) (none_numbered last t.autofs all)

-- and it is the greatest then
pub next_is_sound : (last : ℕ) (rows : List Autofs) (row : Autofs) → row.fs ≡ last + 1 → All (λ (row : Autofs). row.fs ≤ last) rows → All (λ (row : Autofs). row.fs ≤ last + 1) (rows ++ row ∷ [])
next_is_sound last rows row is all =
    All-push (λ (r : Autofs). r.fs ≤ last + 1) rows row
    (All-weaker (λ (r : Autofs). r.fs ≤ last) (λ (r : Autofs). r.fs ≤ last + 1) (λ r h. step r.fs last h) rows all) (greatest row.fs last is)
  where
    step : (n last : ℕ) → n ≤ last → n ≤ last + 1
    step n last h = omega arith

    greatest : (n last : ℕ) → n ≡ last + 1 → n ≤ last + 1
    greatest n last e = omega arith

-- ---- lists that are made row by row

pub flat_one_more : {X A : Type 0} (f : X → List A) (xs : List X) (i : ℕ) (x : X) → i < length xs → x ≡ get_or xs i x → flat_map f (take (i + 1) xs) ≡ flat_map f (take i xs) ++ f x
flat_one_more {X} f xs i x h e =
    ap (flat_map f) (take_more xs i x h ∙ ap (λ (y : X). take i xs ++ y ∷ []) (sym e)) ∙ sym (flat_map_more f [] (take i xs) x)
