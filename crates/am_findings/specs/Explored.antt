-- What comes of a scene that is read and explored: own choice (docs/FORMATS.md, "Findings").
use Rattle.std.specs.Prelude.{◌≡◌, ◌<◌, ◌+◌, ℕ, List, [], ◌∷◌, ◌++◌, length, take, Option, None, ⊤}
use Rattle.std.specs.Io.KnownBytes.{Appends, Consumes, IsAtEnd}
use Rattle.am_machine.specs.{Answer}
use Rattle.am_world.specs.Capacity.{state_of}
use Rattle.am_explore.specs.{AreTaken, Choice, IsFound, IsMissing, IsTallied, NoneTaken, Question, Scene, Seen, Stand, begun_at, choices_at, stand_of}
use Rattle.am_explore.specs.declared.question.Question.TheVariants.{Waiting}
use Rattle.am_explore.specs.declared.search.Found.TheVariants.{Never}
use Rattle.am_script.specs.{ScriptFaultKind, WasRead, lines_of, played}
use Rattle.am_scenes.specs.{Asked, IsScene, NoScene, SceneFault, Told, scene_of}
use Rattle.am_findings.specs.declared.explore.ExploreFault.{ExploreFault}
use Rattle.am_findings.specs.declared.explore.ExploreFault.TheVariants as faults
use Rattle.am_findings.specs.declared.explore.Part.{Part}
use Rattle.am_findings.specs.declared.explore.Part.TheVariants as parts
use Rattle.am_findings.specs.declared.verdict.Verdict.{Verdict}
use Rattle.am_findings.specs.Texts.{answers_text, count_text, finding_text, findings_text}
use Rattle.am_findings.specs.Verdicts.{verdict_of, verdict_on}

-- ---- those orders that are searched

-- where the orders of a scene begin
abbrev pub start_of : Told → Stand
start_of told = begun_at told.scene (state_of told.world)

-- the orders that begin with the choices of these numbers, with where they lead; none does where one of these is no
-- step
abbrev pub IsPart : Told → List ℕ → Part → Type 0
IsPart told prefix (parts.Behind first begun) =
    (answers : List Answer) × AreTaken told.scene (start_of told) prefix first.items answers (stand_of begun)
IsPart told prefix parts.Nothing = NoneTaken told.scene (start_of told) prefix

-- the choices that come first
abbrev pub first_of : Part → List Choice
first_of (parts.Behind first begun) = first.items
first_of parts.Nothing = []

-- how many choices there are where they lead
abbrev pub choices_left : Told → Part → ℕ
choices_left told (parts.Behind first begun) = length (choices_at told.scene (stand_of begun))
choices_left told parts.Nothing = 0

-- there are fewer choices than the number at this place asks for, from 1, where those before it lead
abbrev pub LacksChoice : Told → List ℕ → ℕ → Type 0
LacksChoice told prefix place = (at : ℕ) × (place ≡ at + 1) × IsMissing told.scene (start_of told) prefix at

-- why no orders are searched: there is no such choice, or memory ran out
abbrev pub IsMissed : Told → List ℕ → ExploreFault → Type 0
IsMissed told prefix (faults.NoSuchChoice place) = LacksChoice told prefix place
IsMissed told prefix faults.NoMemory = ⊤
IsMissed told prefix _ = ⊥

-- ---- a search

-- this is seen where there is no order
abbrev pub unseen : Seen
unseen = record {
  found = Never;
  tally = record { orders = 0; states = 0; ends = 0; steps = 0; worlds = 0 };
}

-- this was found of a question from here on, over at most so many states
pub record AnswersFrom (told : Told) (mid : Stand) (most : ℕ) (question : Question) (seen : Seen) : Type 0 where
  pub found : IsFound told.scene question mid seen.found
  pub tally : IsTallied most seen.found seen.tally

-- this was found of a question, of these orders
abbrev pub Answers : Told → Part → ℕ → Question → Seen → Type 0
Answers told (parts.Behind first begun) most question seen = AnswersFrom told (stand_of begun) most question seen
Answers told parts.Nothing most question seen = seen ≡ unseen

-- this was found of these questions, in their order
abbrev pub AreFound : Told → Part → ℕ → List Asked → List Seen → Type 0
AreFound told part most [] [] = ⊤
AreFound told part most (asked ∷ others) (seen ∷ rest) =
    Answers told part most asked.question seen × AreFound told part most others rest
AreFound told part most [] (seen ∷ rest) = ⊥
AreFound told part most (asked ∷ others) [] = ⊥

-- a question that no end meets, of a thread that there isn't: all orders are seen for it
abbrev pub nobody_asks : Scene → Question
nobody_asks scene = Waiting (length scene.threads.items)

-- this was met by a search of all these orders
abbrev pub IsCounted : Told → Part → ℕ → Seen → Type 0
IsCounted told part most seen = Answers told part most (nobody_asks told.scene) seen

-- the questions of a scene come out so, of these orders, and this is what was found
pub record IsSearched (told : Told) (part : Part) (most : ℕ) (verdict : Verdict) (text : List ℕ) : Type 0 where
  pub seen : List Seen
  pub count : Seen
  pub found : AreFound told part most told.asked.items seen
  pub counted : IsCounted told part most count
  pub verdict_is : verdict ≡ verdict_of told.asked.items seen
  pub text_is : text ≡ findings_text (first_of part) (choices_left told part) told.asked.items seen count

-- the same of the orders that begin with the choices of these numbers
pub record IsExplored (told : Told) (prefix : List ℕ) (most : ℕ) (verdict : Verdict) (text : List ℕ) : Type 0 where
  pub part : Part
  pub begins : IsPart told prefix part
  pub searched : IsSearched told part most verdict text

-- ---- on the way

-- one question is explored, and what was found is added
pub record IsAnswered (told : Told) (part : Part) (most : ℕ) (asked : Asked) (old new : List ℕ) (verdict : Verdict) :
    Type 0 where
  pub seen : Seen
  pub answers : Answers told part most asked.question seen
  pub verdict_is : verdict ≡ verdict_on asked.claim seen.found
  pub text_is : new ≡ old ++ finding_text (first_of part) asked seen.found

-- so are all of these
pub record WereAnswered (told : Told) (part : Part) (most : ℕ) (all : List Asked) (old new : List ℕ)
    (verdict : Verdict) : Type 0 where
  pub seen : List Seen
  pub found : AreFound told part most all seen
  pub verdict_is : verdict ≡ verdict_of all seen
  pub text_is : new ≡ old ++ answers_text (first_of part) all seen

-- all these orders are searched, and what was met is added
pub record IsCountAdded (told : Told) (part : Part) (most : ℕ) (old new : List ℕ) : Type 0 where
  pub count : Seen
  pub counted : IsCounted told part most count
  pub text_is : new ≡ old ++ count_text (choices_left told part) count

-- what was found is written
pub record IsWritten (told : Told) (prefix : List ℕ) (most : ℕ) (old new : Option (List ℕ)) (verdict : Verdict) : Type
    0 where
  pub text : List ℕ
  pub explored : IsExplored told prefix most verdict text
  pub written : Appends old new text

-- of what was found the writer took a beginning alone
pub record IsLost (told : Told) (prefix : List ℕ) (most : ℕ) (old new : Option (List ℕ)) : Type 0 where
  pub verdict : Verdict
  pub text : List ℕ
  pub explored : IsExplored told prefix most verdict text
  pub taken : ℕ
  pub short : taken < length text
  pub written : Appends old new (take taken text)

-- why it isn't: there is no such choice, or memory ran out, and nothing is written, or the writer failed
abbrev pub IsNotWritten : Told → List ℕ → ℕ → Option (List ℕ) → Option (List ℕ) → ExploreFault → Type 0
IsNotWritten told prefix most old new (faults.Scene fault) = ⊥
IsNotWritten told prefix most old new (faults.NoSuchChoice place) = LacksChoice told prefix place × (new ≡ old)
IsNotWritten told prefix most old new faults.NoMemory = new ≡ old
IsNotWritten told prefix most old new faults.WriteFailed = IsLost told prefix most old new

-- ---- with a reader and a writer

-- the input was read to its end, and says this scene
pub record Reads (input rest : Option (List ℕ)) (told : Told) : Type 0 where
  pub text : List ℕ
  pub read : Consumes input rest text
  pub ended : IsAtEnd rest
  pub scene : IsScene (scene_of None text) told

-- the input is a scene, its questions come out so, of the orders that begin with these choices, and what was found is
-- written
pub record ExploresInput (most : ℕ) (prefix : List ℕ) (input rest old new : Option (List ℕ)) (verdict : Verdict) : Type
    0 where
  pub told : Told
  pub reads : Reads input rest told
  pub written : IsWritten told prefix most old new verdict

-- the input is no scene, for this fault, and nothing is written
pub record IsNoScene (input rest old new : Option (List ℕ)) (fault : SceneFault) : Type 0 where
  pub text : List ℕ
  pub broke : Option ScriptFaultKind
  pub read : WasRead input rest text broke
  pub bad : NoScene (length (lines_of (played broke text))) (scene_of broke text) fault
  pub unwritten : new ≡ old

-- the input is a scene, and what is found of it isn't written whole
pub record IsUntold (most : ℕ) (prefix : List ℕ) (input rest old new : Option (List ℕ)) (fault : ExploreFault) : Type
    0 where
  pub told : Told
  pub reads : Reads input rest told
  pub unwritten : IsNotWritten told prefix most old new fault

-- why findings aren't written
abbrev pub StopsExploring : ℕ → List ℕ → Option (List ℕ) → Option (List ℕ) → Option (List ℕ) → Option (List ℕ)
    → ExploreFault → Type 0
StopsExploring most prefix input rest old new (faults.Scene fault) = IsNoScene input rest old new fault
StopsExploring most prefix input rest old new fault = IsUntold most prefix input rest old new fault
