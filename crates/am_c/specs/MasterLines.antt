-- A line of a master map, as C has it (auto.master(5), "FORMAT").
use Rattle.std.specs.Prelude.{◌≡◌, ◌⊎◌, ◌+◌, ℕ, List, [], ◌++◌, length, Option, Some, None, Ok, slice_get}
use Rattle.am_lines.specs.{IsReached}
use Rattle.am_names.specs.{text_of}
use Rattle.am_master.specs.Fault.{IsFaultOf, fault_number}
use Rattle.am_master.specs.Grammar.{master_read, AreRows}
use Rattle.am_master.specs.MasterRow.{MasterRow}
use Rattle.am_master.specs.declared.fault.MasterFault.{MasterFault}
use Rattle.am_master.specs.declared.fault.MasterFaultKind.TheVariants.{NoMemory}
use Rattle.am_master.specs.declared.point.Point.{Point}
use Rattle.am_master.specs.declared.point.Point.TheVariants.{Direct, Indirect}
use Rattle.am_script.specs.{fault_at}
use Rattle.am_script.specs.declared.fault.ScriptFaultKind.TheVariants.{BadMaster}
use Rattle.am_c.specs.declared.master_line.AmMasterLine.{AmMasterLine}
use Rattle.am_c.specs.declared.place.AmPlace.{AmPlace}
use Rattle.am_c.specs.Buffer.{with_front}
use Rattle.am_c.specs.Places.{IsPlaceOf}

-- the canonical text of a point; `/-` has none
abbrev pub point_bytes : Point → List ℕ
point_bytes Direct = []
point_bytes (Indirect names) = text_of names

-- 1 for `/-`
abbrev pub direct_count : Point → ℕ
direct_count Direct = 1
direct_count (Indirect names) = 0

-- the bytes of a line: its point and the name of its map, one behind another
abbrev pub row_bytes : Option MasterRow → List ℕ
row_bytes (Some row) = point_bytes row.point ++ row.map
row_bytes None = []

-- where these lie, the rest of the line, and how many lines there are
abbrev pub row_told : ℕ → Option MasterRow → AmMasterLine
row_told lines (Some row) = record {
  bytes = length (point_bytes row.point) + length row.map;
  map_at = length (point_bytes row.point);
  line = row.line;
  lines = lines;
  timeout = row.timeout;
  direct = direct_count row.point;
  found = 1;
  pad = 0;
}
row_told lines None = record {
  bytes = 0;
  map_at = 0;
  line = 0;
  lines = lines;
  timeout = 0;
  direct = 0;
  found = 0;
  pad = 0;
}

-- C has the line at this place: its bytes, and what it says
pub record IsLine (rows : List MasterRow) (at : ℕ) (bytes : List ℕ) (told : AmMasterLine) : Type 0 where
  pub bytes_of : bytes ≡ row_bytes (slice_get rows at)
  pub told_of : told ≡ row_told (length rows) (slice_get rows at)

-- the text is a master map, and C has its line at this place
pub record IsFound (text : List ℕ) (at : ℕ) (bytes : List ℕ) (told : AmMasterLine) : Type 0 where
  pub rows : List MasterRow
  pub read : master_read text ≡ Ok rows
  pub line : IsLine rows at bytes told

-- the fault is at a line of the text, and those above it are rows; or there was no memory for what
-- is told, which is no line
abbrev pub IsWithin : List ℕ → MasterFault → Type 0
IsWithin text fault =
    IsReached AreRows text fault.line ⊎ (fault ≡ record { line = 0; kind = NoMemory })

-- the text is no master map, or memory ran out: C has the number of the fault and its place
pub record IsNoMaster (text : List ℕ) (number : ℕ) (place : AmPlace) : Type 0 where
  pub fault : MasterFault
  pub is : IsFaultOf (master_read text) fault
  pub reached : IsWithin text fault
  pub numbered : number ≡ fault_number fault.kind
  pub placed : IsPlaceOf text (fault_at fault.line (BadMaster fault.kind)) place

-- what C has: its buffer, a line, and a place
pub record Held : Type 0 where
  pub buffer : List ℕ
  pub told : AmMasterLine
  pub place : AmPlace

-- the line is told, and the place is as it was
pub record Finds (text : List ℕ) (at : ℕ) (old new : Held) : Type 0 where
  pub bytes : List ℕ
  pub found : IsFound text at bytes new.told
  pub buffer : new.buffer ≡ with_front bytes old.buffer
  pub place : new.place ≡ old.place

-- there is a fault, and nothing else is told
pub record FindsNoMaster (text : List ℕ) (old new : Held) (number : ℕ) : Type 0 where
  pub fault : IsNoMaster text number new.place
  pub told : new.told ≡ old.told
  pub buffer : new.buffer ≡ old.buffer

-- the line is told, which is no fault; or there is one
abbrev pub TellsLine : List ℕ → ℕ → Held → Held → ℕ → Type 0
TellsLine text at old new number =
    (Finds text at old new × (number ≡ 0)) ⊎ FindsNoMaster text old new number
