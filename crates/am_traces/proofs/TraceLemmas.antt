-- What the lines of a text are read as.
use Rattle.std.proofs.Common.{◌≡◌, ℕ, ◌+◌, ◌-◌, Bool, true, false, cond, List, [], ◌∷◌, ◌++◌, length, Option, Some, None, Bor, Result, Ok, Err, refl, sym, ap, ◌∙◌, subst, arith, inl, inr}
use Rattle.std.specs.Prelude.{IfNone, IfSome}
use Rattle.std.proofs.lemmas.List.{append-nil}
use Rattle.am_script.specs.{lines_of}
use Rattle.am_state.specs.{Obs}
use Rattle.am_traces.specs.declared.fault.Expected.{Expected}
use Rattle.am_traces.specs.declared.fault.Miss.{Miss}
use Rattle.am_traces.specs.declared.fault.TraceFault.{TraceFault}
use Rattle.am_traces.specs.declared.fault.TraceFault.TheVariants.{BadLine, NoMemory}
use Rattle.am_traces.specs.Observations.{line_read}
use Rattle.am_traces.specs.Says.{Says, is_indented, SaysFirst, IsTraceOf, IsUnread}
use Rattle.am_traces.specs.Texts.{fault_at, told_at, followed, with_line, lines_read, onto, IsReadAs, IsTaken, IsNotTaken}
use Rattle.am_traces.proofs.SoundLemmas.{line_says}
use Rattle.am_traces.proofs.BackLemmas.{line_back}

abbrev all : List Obs → Result (List Obs) TraceFault
all seen = Ok seen

-- ---- all lines are read

record Followed (above : ℕ) (line : List ℕ) (r : Result Obs Miss) (o : Result (List Obs) TraceFault) (seen : List Obs) : Type 0 where
  pub obs : Obs
  pub others : List Obs
  pub read : r ≡ Ok obs
  pub follow : o ≡ Ok others
  pub parted : seen ≡ obs ∷ others

was_followed : (above : ℕ) (line : List ℕ) (r : Result Obs Miss) (o : Result (List Obs) TraceFault) (seen : List Obs) → followed (told_at above line r) o ≡ Ok seen → Followed above line r o seen
was_followed above line (Ok obs) (Ok others) seen e = record { obs = obs; others = others; read = refl; follow = refl; parted = cc }
was_followed above line (Ok obs) (Err fault) seen e = absurd cc
was_followed above line (Err missed) o seen e = absurd cc

one_line : (above : ℕ) (line : List ℕ) (lines : List (List ℕ)) (seen : List Obs) (o : Result (List Obs) TraceFault) →
    ((others : List Obs) → o ≡ Ok others → IsTraceOf lines others) → with_line above line o ≡ Ok seen → IsTraceOf (line ∷ lines) seen
one_line above line lines seen o rest e = go (is_indented line) refl e
  where
    go : (b : Bool) → is_indented line ≡ b → cond b (followed (told_at above line (line_read line)) o) o ≡ Ok seen → IsTraceOf (line ∷ lines) seen
    go false same h = inl (same, rest seen h)
    go true same h =
        let f = was_followed above line (line_read line) o seen h in
        inr (record {
          indented = same;
          obs = f.obs;
          others = f.others;
          parted = f.parted;
          says = line_says line f.obs f.read;
          follow = rest f.others f.follow;
        })

pub is_trace : (lines : List (List ℕ)) (above : ℕ) (seen : List Obs) → lines_read above lines ≡ Ok seen → IsTraceOf lines seen
unfolding lines_read
is_trace [] above seen e = cc
is_trace (line ∷ lines) above seen e =
    one_line above line lines seen (lines_read (above + 1) lines) (λ others h. is_trace lines (above + 1) others h) e

-- ---- a trace is read back

said_first : (above : ℕ) (line : List ℕ) (lines : List (List ℕ)) (seen : List Obs) (o : Result (List Obs) TraceFault) →
    ((others : List Obs) → IsTraceOf lines others → o ≡ Ok others) → SaysFirst line seen (IsTraceOf lines) → with_line above line o ≡ Ok seen
said_first above line lines seen o back s =
    subst (λ (b : Bool). cond b (followed (told_at above line (line_read line)) o) o ≡ all seen) (sym s.indented)
    (subst (λ (r : Result Obs Miss). followed (told_at above line r) o ≡ all seen) (sym (line_back line s.obs s.says))
    (subst (λ (x : Result (List Obs) TraceFault). followed (Ok s.obs) x ≡ all seen) (sym (back s.others s.follow))
    (ap all (sym s.parted))))

line_back_first : (above : ℕ) (line : List ℕ) (lines : List (List ℕ)) (seen : List Obs) (o : Result (List Obs) TraceFault) →
    ((others : List Obs) → IsTraceOf lines others → o ≡ Ok others) → IsTraceOf (line ∷ lines) seen → with_line above line o ≡ Ok seen
line_back_first above line lines seen o back (inl plain) =
    subst (λ (b : Bool). cond b (followed (told_at above line (line_read line)) o) o ≡ all seen) (sym plain.0) (back seen plain.1)
line_back_first above line lines seen o back (inr s) = said_first above line lines seen o back s

pub trace_back : (lines : List (List ℕ)) (above : ℕ) (seen : List Obs) → IsTraceOf lines seen → lines_read above lines ≡ Ok seen
unfolding lines_read
trace_back [] above seen h = ap all (sym h)
trace_back (line ∷ lines) above seen h =
    line_back_first above line lines seen (lines_read (above + 1) lines) (λ others t. trace_back lines (above + 1) others t) h

-- what the lines say is one list
pub one_trace : (lines : List (List ℕ)) (seen other : List Obs) → lines_read 0 lines ≡ Ok seen → IsTraceOf lines other → other ≡ seen
one_trace lines seen other e h = let back : lines_read 0 lines ≡ all other = trace_back lines 0 other h in cc

-- ---- the first line that isn't read

-- the same of lines, of which so many stand above them
record BadBehind (from : ℕ) (lines : List (List ℕ)) (number column : ℕ) (expected : Expected) : Type 0 where
  pub above : List (List ℕ)
  pub line : List ℕ
  pub below : List (List ℕ)
  pub stands : lines ≡ above ++ line ∷ below
  pub numbered : number ≡ (from + length above) + 1
  pub seen : List Obs
  pub before : IsTraceOf above seen
  pub indented : is_indented line ≡ true
  pub miss : Miss
  pub missed : line_read line ≡ Err miss
  pub placed : column ≡ (length line - miss.left) + 1
  pub told : expected ≡ miss.expected

abbrev bad : ℕ → ℕ → Expected → Result (List Obs) TraceFault
bad number column expected = Err (BadLine number column expected)

-- one line more above
lower : (from : ℕ) (line : List ℕ) (lines : List (List ℕ)) (number column : ℕ) (expected : Expected) →
    (b : BadBehind (from + 1) lines number column expected) → (seen : List Obs) → IsTraceOf (line ∷ b.above) seen → BadBehind from (line ∷ lines) number column expected
lower from line lines number column expected b seen h = record {
  above = line ∷ b.above;
  line = b.line;
  below = b.below;
  stands = ap (λ (l : List (List ℕ)). line ∷ l) b.stands;
  numbered = omega (arith, b.numbered);
  seen = seen;
  before = h;
  indented = b.indented;
  miss = b.miss;
  missed = b.missed;
  placed = b.placed;
  told = b.told;
}

here : (from : ℕ) (line : List ℕ) (lines : List (List ℕ)) (number column : ℕ) (expected : Expected) (miss : Miss) →
    is_indented line ≡ true → line_read line ≡ Err miss → fault_at from line miss ≡ BadLine number column expected → BadBehind from (line ∷ lines) number column expected
here from line lines number column expected miss i e f =
    let n : from + 1 ≡ number = cc in
    record {
      above = [];
      line = line;
      below = lines;
      stands = refl;
      numbered = omega (arith, n);
      seen = [];
      before = refl;
      indented = i;
      miss = miss;
      missed = e;
      placed = cc;
      told = cc;
    }

bad_line : (from : ℕ) (line : List ℕ) (lines : List (List ℕ)) (number column : ℕ) (expected : Expected) (o : Result (List Obs) TraceFault) →
    (o ≡ bad number column expected → BadBehind (from + 1) lines number column expected) → with_line from line o ≡ bad number column expected → BadBehind from (line ∷ lines) number column expected
bad_line from line lines number column expected o rest e = go (is_indented line) refl e
  where
    read : (r : Result Obs Miss) (p : Result (List Obs) TraceFault) → line_read line ≡ r → o ≡ p → is_indented line ≡ true → followed (told_at from line r) p ≡ bad number column expected → BadBehind from (line ∷ lines) number column expected
    read (Err miss) p same was i h = here from line lines number column expected miss i same cc
    read (Ok obs) (Ok others) same was i h = absurd cc
    read (Ok obs) (Err fault) same was i h =
        let b = rest (was ∙ h) in
        lower from line lines number column expected b (obs ∷ b.seen) (inr (record {
          indented = i;
          obs = obs;
          others = b.seen;
          parted = refl;
          says = line_says line obs same;
          follow = b.before;
        }))

    go : (b : Bool) → is_indented line ≡ b → cond b (followed (told_at from line (line_read line)) o) o ≡ bad number column expected → BadBehind from (line ∷ lines) number column expected
    go false same h =
        let b = rest h in
        lower from line lines number column expected b b.seen (inl (same, b.before))
    go true same h = read (line_read line) o refl refl same h

first_bad : (lines : List (List ℕ)) (from number column : ℕ) (expected : Expected) → lines_read from lines ≡ bad number column expected → BadBehind from lines number column expected
unfolding lines_read
first_bad [] from number column expected e = absurd cc
first_bad (line ∷ lines) from number column expected e =
    bad_line from line lines number column expected (lines_read (from + 1) lines)
    (λ h. first_bad lines (from + 1) number column expected h) e

none_said : (line : List ℕ) (miss : Miss) → line_read line ≡ Err miss → (obs : Obs) → ¬ Says line obs
none_said line miss e obs h = let back : line_read line ≡ Ok obs = line_back line obs h in absurd cc

pub unread : (lines : List (List ℕ)) (fault : TraceFault) → IsReadAs (lines_read 0 lines) fault → IsUnread lines fault
unread lines NoMemory h = tt
unread lines (BadLine number column expected) h =
    let b = first_bad lines 0 number column expected h in
    record {
      above = b.above;
      line = b.line;
      below = b.below;
      stands = b.stands;
      numbered = omega (arith, b.numbered);
      seen = b.seen;
      before = b.before;
      indented = b.indented;
      says_none = none_said b.line b.miss b.missed;
      miss = b.miss;
      missed = b.missed;
      placed = b.placed;
      told = b.told;
    }

-- ---- line by line

-- what follows a first line
pub record Cut (lines : List (List ℕ)) (line : List ℕ) : Type 0 where
  pub rest : List (List ℕ)
  pub is : lines ≡ line ∷ rest

pub cut : (behind : Option (Bor (List ℕ))) (lines : List (List ℕ)) (line : List ℕ) →
    IfNone behind (lines ≡ line ∷ []) → IfSome behind (λ rest. lines ≡ line ∷ lines_of rest.now) → Cut lines line
cut None lines line last more = record { rest = []; is = last }
cut (Some rest) lines line last more = record { rest = lines_of rest.now; is = more }

pub more : (above : ℕ) (line : List ℕ) (old new : List Obs) (lines rest : List (List ℕ)) (whole : Result (List Obs) TraceFault) →
    lines ≡ line ∷ rest → IsTaken above line old new → onto old (lines_read above lines) ≡ whole → onto new (lines_read (above + 1) rest) ≡ whole
unfolding lines_read
more above line old new lines rest whole e taken h =
    sym (taken (lines_read (above + 1) rest)) ∙ subst (λ (l : List (List ℕ)). onto old (lines_read above l) ≡ whole) e h

pub last_line : (above : ℕ) (line : List ℕ) (old new : List Obs) (lines : List (List ℕ)) (whole : Result (List Obs) TraceFault) →
    lines ≡ line ∷ [] → IsTaken above line old new → onto old (lines_read above lines) ≡ whole → whole ≡ Ok new
unfolding lines_read
last_line above line old new lines whole e taken h =
    sym (more above line old new lines [] whole e taken h) ∙ ap all (append-nil new)

stopped_at : (above : ℕ) (line : List ℕ) (old : List Obs) (o whole : Result (List Obs) TraceFault) (fault : TraceFault) →
    onto old o ≡ whole → IsReadAs o fault → IsReadAs whole fault
stopped_at above line old o whole NoMemory h e = tt
stopped_at above line old o whole (BadLine number column expected) h e = sym h ∙ ap (onto old) e

pub stopped : (above : ℕ) (line : List ℕ) (old : List Obs) (lines rest : List (List ℕ)) (whole : Result (List Obs) TraceFault) (fault : TraceFault) →
    lines ≡ line ∷ rest → IsNotTaken above line fault → onto old (lines_read above lines) ≡ whole → IsReadAs whole fault
unfolding lines_read
stopped above line old lines rest whole fault e none h =
    stopped_at above line old (with_line above line (lines_read (above + 1) rest)) whole fault
    (subst (λ (l : List (List ℕ)). onto old (lines_read above l) ≡ whole) e h) (none (lines_read (above + 1) rest))
