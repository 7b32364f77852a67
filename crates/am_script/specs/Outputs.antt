-- Bytes of answers on their way to a writer, each with the line of the script that it answers. For
-- the code alone: own choice.
use Rattle.std.specs.Prelude.{◌≡◌, ℕ, ◌+◌, ◌≤◌, nat_lt, List, [], ◌∷◌, ◌++◌, map, find, length, All, Option, None, Some, if◌then◌else◌}
use Rattle.std.specs.Io.KnownBytes.{Appends}
use Rattle.am_script.specs.declared.output.Mark.{Mark}
use Rattle.am_script.specs.declared.output.Output.{Output}

-- a byte of an answer, and the line of the script that it answers
pub record Owed : Type 0 where
  pub byte : ℕ
  pub line : ℕ

-- bytes of the answer to a line
abbrev pub owed_by : ℕ → List ℕ → List Owed
owed_by line bytes = map (λ b. record { byte = b; line = line }) bytes

-- the bytes without their lines
abbrev pub bytes_of : List Owed → List ℕ
bytes_of owed = map (λ o. o.byte) owed

-- ---- what an output keeps

-- the line of the mark, or this one where there is none
abbrev pub line_of : ℕ → Option Mark → ℕ
line_of line None = line
line_of line (Some mark) = mark.line

-- the line of the byte at this place: that of the first mark which ends behind it, or else this one
abbrev pub line_at : List Mark → ℕ → ℕ → ℕ
line_at marks line at = line_of line (find (λ mark. nat_lt at mark.end) marks)

-- the line of the first of these bytes that isn't among so many, if there is one
abbrev pub lost_behind : List Mark → ℕ → List ℕ → ℕ → Option ℕ
lost_behind marks line bytes taken = if nat_lt taken (length bytes) then Some (line_at marks line taken) else None

-- these bytes, the first of which is at this place
abbrev pub owed_from : List Mark → ℕ → ℕ → List ℕ → List Owed
owed_from marks line at [] = []
owed_from marks line at (b ∷ bytes) =
    record { byte = b; line = line_at marks line at } ∷ owed_from marks line (at + 1) bytes

-- ---- what a writer took

-- of all these bytes the writer took those that aren't owed any more
pub record IsOwed (all owed : List Owed) (old new : Option (List ℕ)) : Type 0 where
  pub front : List Owed
  pub parts : all ≡ front ++ owed
  pub written : Appends old new (bytes_of front)

-- of all these bytes the writer took those before one of this line, and no more
pub record IsLost (all : List Owed) (line : ℕ) (old new : Option (List ℕ)) : Type 0 where
  pub front : List Owed
  pub first : Owed
  pub others : List Owed
  pub parts : all ≡ front ++ first ∷ others
  pub line_is : first.line ≡ line
  pub written : Appends old new (bytes_of front)

-- no byte is lost, or the first that is answers this line
abbrev pub StandsBy : Option ℕ → List Owed → List Owed → Option (List ℕ) → Option (List ℕ) → Type 0
StandsBy None owed all old new = IsOwed all owed old new
StandsBy (Some line) owed all old new = IsLost all line old new

-- where all these bytes were put out, these are kept, by marks that stand within them
pub record StandsOf (bytes : List ℕ) (marks : List Mark) (line : ℕ) (lost : Option ℕ) (all : List Owed) (old new : Option (List ℕ)) : Type 0 where
  pub marked : All (λ mark. mark.end ≤ length bytes) marks
  pub owes : StandsBy lost (owed_from marks line 0 bytes) all old new

-- where all these bytes were put out, the output keeps what the writer didn't take
abbrev pub Stands : Output → List Owed → Option (List ℕ) → Option (List ℕ) → Type 0
Stands output all old new = StandsOf output.bytes.items output.marks.items output.line output.lost all old new

-- nothing is put out, but what is kept may be written
abbrev pub Settles : Output → Output → Option (List ℕ) → Option (List ℕ) → Type 0
Settles old new held holds =
    (all : List Owed) → (start : Option (List ℕ)) → Stands old all start held → Stands new all start holds

-- these bytes are put out behind all that were before
abbrev pub PutsOut : Output → Output → List Owed → Option (List ℕ) → Option (List ℕ) → Type 0
PutsOut old new owed held holds =
    (all : List Owed) → (start : Option (List ℕ)) → Stands old all start held → Stands new (all ++ owed) start holds

-- a text is put out, as more of the answer that is being put out
pub record Puts (old new : Output) (text : List ℕ) (held holds : Option (List ℕ)) : Type 0 where
  pub same : new.line ≡ old.line
  pub puts : PutsOut old new (owed_by old.line text) held holds
