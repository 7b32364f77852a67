-- How a head is ended.
use Rattle.std.proofs.Common.{◌≡◌, ℕ, ◌+◌, List, ◌++◌, true, Result, Ok, Err, IfOk, IfErr, ap, ◌∙◌, inl, inr}
use Rattle.am_session.specs.{IsBegun, Session}
use Rattle.am_serve.specs.declared.complaints.Complaint.TheVariants.{OfScript}
use Rattle.am_serve.specs.declared.hear.Bad.{Bad}
use Rattle.am_serve.specs.declared.stands.Serving.{Serving}
use Rattle.am_serve.specs.declared.stands.Stand.{Stand}
use Rattle.am_serve.specs.declared.stands.Stand.TheVariants.{Gathering, Playing}
use Rattle.am_serve.specs.declared.telling.Telling.{Telling}
use Rattle.am_serve.specs.declared.telling.Telling.TheVariants.{Fault}
use Rattle.am_serve.specs.Heads.{Gathered}
use Rattle.am_serve.specs.Hearing.{HeardInHead}
use Rattle.am_serve.specs.Openings.{Follows, IsNoOpening}

-- a session that stands so, of which so many lines were taken
abbrev serving : Stand → ℕ → Serving
serving stand lines = record { stand = stand; lines = lines }

stands_as : (stand other : Stand) (left lines : ℕ) → stand ≡ other → left ≡ lines → serving stand left ≡ serving other lines
stands_as stand other left lines e f = ap (λ (s : Stand). serving s left) e ∙ ap (λ (n : ℕ). serving other n) f

-- its world begins, or none does
pub head_heard : (opened : Result Session Bad) (head : Gathered) (lines : ℕ) (line : List ℕ) (stand : Stand) (left : ℕ) (told : Telling) → IfOk opened (IsBegun (head.text ++ line)) → IfErr opened (IsNoOpening head lines line) → Follows opened lines stand left told →
    HeardInHead true head lines line (record { stand = stand; lines = left }) told
head_heard (Ok session) head lines line stand left told begun none h = inl (record {
  session = session;
  begun = begun;
  stands = stands_as stand _ left _ h.0 h.1;
  nothing = h.2;
})
head_heard (Err bad) head lines line stand left told begun (inl none) h = inr (inl (record {
  fault = bad.fault;
  bad = none.0;
  slip = bad.slip;
  placed = none.1;
  anew = stands_as stand _ left _ h.0 h.1;
  tells = h.2;
}))
head_heard (Err bad) head lines line stand left told begun (inr lost) h =
    inr (inr (stands_as stand _ left _ h.0 h.1, h.2 ∙ ap (λ (b : Bad). Fault b.fault.line (OfScript b.fault.kind) b.slip) lost))
