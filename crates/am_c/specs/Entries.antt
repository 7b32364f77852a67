-- The entry of a key, as C has it (autofs(5), "SUN FORMAT").
use Rattle.std.specs.Prelude.{◌≡◌, ◌⊎◌, ◌+◌, ℕ, Bool, true, false, List, [], ◌++◌, length, Option, Some, None, Ok}
use Rattle.am_lines.specs.{statements, IsReached}
use Rattle.am_map.specs.EntryText.{EntryText, Row}
use Rattle.am_map.specs.Fault.{IsFaultOf, fault_number}
use Rattle.am_map.specs.Grammar.{map_read, rows_read, AreRows, FindsFirst}
use Rattle.am_map.specs.LookUp.{entry_for}
use Rattle.am_map.specs.declared.fault.MapFault.{MapFault}
use Rattle.am_map.specs.declared.fault.MapFaultKind.TheVariants.{NoMemory}
use Rattle.am_map.specs.declared.kind.MapKind.{MapKind}
use Rattle.am_map.specs.declared.kind.MapKind.TheVariants.{Indirect, Direct}
use Rattle.am_script.specs.{fault_at}
use Rattle.am_script.specs.declared.fault.ScriptFaultKind.TheVariants.{BadMap}
use Rattle.am_c.specs.declared.entry.AmEntry.{AmEntry}
use Rattle.am_c.specs.declared.place.AmPlace.{AmPlace}
use Rattle.am_c.specs.Buffer.{with_front}
use Rattle.am_c.specs.Places.{IsPlaceOf}

-- the kind of a map whose keys are paths, or names
abbrev pub kind_where : Bool → MapKind
kind_where true = Direct
kind_where false = Indirect

-- the options, or none
abbrev pub options_text : Option (List ℕ) → List ℕ
options_text (Some options) = options
options_text None = []

-- 1 where there are options
abbrev pub options_count : Option (List ℕ) → ℕ
options_count (Some options) = 1
options_count None = 0

-- the bytes of an entry: its options, its host and its path, one behind another
abbrev pub entry_bytes : Option EntryText → List ℕ
entry_bytes (Some e) = options_text e.options ++ (e.host ++ e.path)
entry_bytes None = []

-- where these lie, and whether there is an entry, and options
abbrev pub entry_told : Option EntryText → AmEntry
entry_told (Some e) = record {
  bytes = length (options_text e.options) + (length e.host + length e.path);
  host_at = length (options_text e.options);
  path_at = length (options_text e.options) + length e.host;
  has_options = options_count e.options;
  found = 1;
}
entry_told None = record { bytes = 0; host_at = 0; path_at = 0; has_options = 0; found = 0 }

-- C has this entry: its bytes, and where they lie
pub record IsEntry (entry : Option EntryText) (bytes : List ℕ) (told : AmEntry) : Type 0 where
  pub bytes_of : bytes ≡ entry_bytes entry
  pub told_of : told ≡ entry_told entry

-- the text is a map, and C has the entry that it has for the key
pub record IsFound (kind : MapKind) (text key bytes : List ℕ) (told : AmEntry) : Type 0 where
  pub rows : List Row
  pub read : map_read kind text ≡ Ok rows
  pub first : FindsFirst (rows_read kind (statements text)) rows
  pub entry : IsEntry (entry_for rows key) bytes told

-- the fault is at a line of the text, and those above it are rows; or there was no memory for the
-- look-up, which is no line
abbrev pub IsWithin : MapKind → List ℕ → MapFault → Type 0
IsWithin kind text fault =
    IsReached (AreRows kind) text fault.line ⊎ (fault ≡ record { line = 0; kind = NoMemory })

-- the text is no map of this kind, or memory ran out: C has the number of the fault and its place
pub record IsNoMap (kind : MapKind) (text : List ℕ) (number : ℕ) (place : AmPlace) : Type 0 where
  pub fault : MapFault
  pub is : IsFaultOf (map_read kind text) fault
  pub reached : IsWithin kind text fault
  pub numbered : number ≡ fault_number fault.kind
  pub placed : IsPlaceOf text (fault_at fault.line (BadMap fault.kind)) place

-- what C hands in: whether the map is direct, its text, and a key
pub record Asked : Type 0 where
  pub direct : Bool
  pub text : List ℕ
  pub key : List ℕ

-- what C has: its buffer, an entry, and a place
pub record Held : Type 0 where
  pub buffer : List ℕ
  pub entry : AmEntry
  pub place : AmPlace

-- the key is looked up, and the place is as it was
pub record Finds (asked : Asked) (old new : Held) : Type 0 where
  pub bytes : List ℕ
  pub found : IsFound (kind_where asked.direct) asked.text asked.key bytes new.entry
  pub buffer : new.buffer ≡ with_front bytes old.buffer
  pub place : new.place ≡ old.place

-- there is a fault, and nothing else is told
pub record FindsNoMap (asked : Asked) (old new : Held) (number : ℕ) : Type 0 where
  pub fault : IsNoMap (kind_where asked.direct) asked.text number new.place
  pub entry : new.entry ≡ old.entry
  pub buffer : new.buffer ≡ old.buffer

-- the key is looked up, which is no fault; or there is one
abbrev pub LooksUp : Asked → Held → Held → ℕ → Type 0
LooksUp asked old new number =
    (Finds asked old new × (number ≡ 0)) ⊎ FindsNoMap asked old new number
