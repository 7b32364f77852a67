-- Maps are read one after another.
use Rattle.std.proofs.Common.{◌≡◌, ◌+◌, ◌<◌, ℕ, suc, List, [], ◌∷◌, ◌++◌, length, drop, get_or, refl, sym, ap, ◌∙◌, append_assoc, add-one, drop-cons}
use Rattle.std.specs.Prelude.{Result, Ok, Err}
use Rattle.am_map.specs.{Row}
use Rattle.am_master.specs.MasterRow.{MasterRow}
use Rattle.am_script.specs.{ScriptFault, Section, before_maps, map_by, maps_read, section_for}

-- the maps that are read, and those that follow
abbrev pub behind : List (List Row) → Result (List (List Row)) ScriptFault → Result (List (List Row)) ScriptFault
behind done (Ok maps) = Ok (done ++ maps)
behind done (Err fault) = Err fault

pub behind_none : (read : Result (List (List Row)) ScriptFault) → behind [] read ≡ read
behind_none (Ok maps) = refl
behind_none (Err fault) = refl

more : (done : List (List Row)) (rows : List Row) (others : Result (List (List Row)) ScriptFault) → behind done (before_maps (Ok rows) others) ≡ behind (done ++ rows ∷ []) others
more done rows (Ok maps) = ap (λ (all : List (List Row)). Ok all) (sym (append_assoc done (rows ∷ []) maps))
more done rows (Err fault) = refl

first_left : {X : Type 0} (xs : List X) (i : ℕ) (x : X) → i < length xs → x ≡ get_or xs i x → drop i xs ≡ x ∷ drop (i + 1) xs
first_left xs i x h e = rw add-one (drop-cons xs i x h ∙ ap (λ y. y ∷ drop (suc i) xs) (sym e))

-- the map of the next line is read
step : (sections : List Section) (first : ℕ) (entries : List MasterRow) (i : ℕ) (entry : MasterRow) → i < length entries → entry ≡ get_or entries i entry →
    maps_read sections first (drop i entries) ≡ before_maps (map_by (section_for sections entry.map) first entry) (maps_read sections first (drop (i + 1) entries))
step sections first entries i entry h e =
    ap (maps_read sections first) (first_left entries i entry h e)

pub map_more : (sections : List Section) (first : ℕ) (entries : List MasterRow) (i : ℕ) (entry : MasterRow) (done : List (List Row)) (rows : List Row) → i < length entries → entry ≡ get_or entries i entry →
    map_by (section_for sections entry.map) first entry ≡ Ok rows → behind done (maps_read sections first (drop i entries)) ≡ behind (done ++ rows ∷ []) (maps_read sections first (drop (i + 1) entries))
map_more sections first entries i entry done rows h e read =
    ap (behind done) (step sections first entries i entry h e ∙ ap (λ (r : Result (List Row) ScriptFault). before_maps r (maps_read sections first (drop (i + 1) entries))) read) ∙ more done rows (maps_read sections first (drop (i + 1) entries))

pub map_stops : (sections : List Section) (first : ℕ) (entries : List MasterRow) (i : ℕ) (entry : MasterRow) (done : List (List Row)) (fault : ScriptFault) → i < length entries → entry ≡ get_or entries i entry →
    map_by (section_for sections entry.map) first entry ≡ Err fault → behind done (maps_read sections first (drop i entries)) ≡ Err fault
map_stops sections first entries i entry done fault h e read =
    ap (behind done) (step sections first entries i entry h e ∙ ap (λ (r : Result (List Row) ScriptFault). before_maps r (maps_read sections first (drop (i + 1) entries))) read)
