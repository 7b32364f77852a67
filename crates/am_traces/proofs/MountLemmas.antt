-- Mounts are read one after another.
use Rattle.std.proofs.Common.{◌≡◌, ℕ, zero, suc, ◌^◌, ◌<◌, ◌≤◌, List, [], ◌∷◌, ◌++◌, length, Result, Ok, Err, refl, sym, ap, ◌∙◌, arith}
use Rattle.std.specs.Prelude.{codes, decimal}
use Rattle.std.proofs.lemmas.List.{append-nil, append_assoc, length-append}
use Rattle.am_traces.specs.declared.fault.Expected.TheVariants as expected
use Rattle.am_traces.specs.declared.fault.Miss.{Miss}
use Rattle.am_traces.specs.Parts.{◌>>=◌, number_cut}
use Rattle.am_traces.specs.Observations.{mounts_in}
use Rattle.am_traces.proofs.PartLemmas.{ok, number_is}

-- these mounts, and then those
abbrev pub mounts_onto : List ℕ → Result (List ℕ) Miss → Result (List ℕ) Miss
mounts_onto mounts (Ok others) = Ok (mounts ++ others)
mounts_onto mounts (Err missed) = Err missed

-- these mounts were read of the text, and this is left
pub record SoFar (mounts rest text : List ℕ) : Type 0 where
  pub most : ℕ
  pub enough : length rest ≤ most
  pub same : mounts_onto mounts (mounts_in most rest) ≡ mounts_in (length text) text

nothing_yet : (r : Result (List ℕ) Miss) → mounts_onto [] r ≡ r
nothing_yet (Ok others) = refl
nothing_yet (Err missed) = refl

pub at_first : (text : List ℕ) → SoFar [] text text
at_first text = record { most = length text; enough = omega arith; same = nothing_yet (mounts_in (length text) text) }

one_more : (mounts : List ℕ) (mount : ℕ) (r : Result (List ℕ) Miss) → mounts_onto mounts (r >>= (λ others. Ok (mount ∷ others))) ≡ mounts_onto (mounts ++ mount ∷ []) r
one_more mounts mount (Ok others) = ap (λ (l : List ℕ). ok l) (sym (append_assoc mounts (mount ∷ []) others))
one_more mounts mount (Err missed) = refl

pub shorter : (rest : List ℕ) (cut : ℕ × List ℕ) → number_cut (codes " ") (2 ^ 64) expected.Mount rest ≡ Ok cut → length cut.1 < length rest
shorter rest cut e =
    let n = number_is (codes " ") (2 ^ 64) expected.Mount rest cut (omega arith) e in
    omega (arith, ap length n.printed, length-append (decimal cut.0) cut.1)

step : (most b : ℕ) (mounts rest text : List ℕ) (cut : ℕ × List ℕ) → length (b ∷ rest) ≤ most → mounts_onto mounts (mounts_in most (b ∷ rest)) ≡ mounts_in (length text) text → number_cut (codes " ") (2 ^ 64) expected.Mount (b ∷ rest) ≡ Ok cut → SoFar (mounts ++ cut.0 ∷ []) cut.1 text
step zero b mounts rest text cut h same e = absurd (omega arith)
step (suc most) b mounts rest text cut h same e =
    record {
      most = most;
      enough = omega (arith, shorter (b ∷ rest) cut e);
      same = sym (one_more mounts cut.0 (mounts_in most cut.1)) ∙ (rw e at same);
    }

pub goes_on : (mounts rest text : List ℕ) (cut : ℕ × List ℕ) → SoFar mounts rest text → 0 < length rest → number_cut (codes " ") (2 ^ 64) expected.Mount rest ≡ Ok cut → SoFar (mounts ++ cut.0 ∷ []) cut.1 text
goes_on mounts [] text cut h some e = absurd (omega arith)
goes_on mounts (b ∷ rest) text cut h some e = step h.most b mounts rest text cut h.enough h.same e

stop : (most b : ℕ) (mounts rest text : List ℕ) (missed : Miss) → length (b ∷ rest) ≤ most → mounts_onto mounts (mounts_in most (b ∷ rest)) ≡ mounts_in (length text) text → number_cut (codes " ") (2 ^ 64) expected.Mount (b ∷ rest) ≡ Err missed → mounts_in (length text) text ≡ Err missed
stop zero b mounts rest text missed h same e = absurd (omega arith)
stop (suc most) b mounts rest text missed h same e = sym (rw e at same)

pub stops : (mounts rest text : List ℕ) (missed : Miss) → SoFar mounts rest text → 0 < length rest → number_cut (codes " ") (2 ^ 64) expected.Mount rest ≡ Err missed → mounts_in (length text) text ≡ Err missed
stops mounts [] text missed h some e = absurd (omega arith)
stops mounts (b ∷ rest) text missed h some e = stop h.most b mounts rest text missed h.enough h.same e

none_left : (most : ℕ) → mounts_in most [] ≡ Ok []
none_left zero = refl
none_left (suc most) = refl

pub ends : (mounts rest text : List ℕ) → SoFar mounts rest text → length rest ≡ 0 → mounts_in (length text) text ≡ Ok mounts
ends mounts [] text h none = sym h.same ∙ ap (mounts_onto mounts) (none_left h.most) ∙ ap (λ (l : List ℕ). ok l) (append-nil mounts)
ends mounts (b ∷ rest) text h none = absurd (omega arith)
