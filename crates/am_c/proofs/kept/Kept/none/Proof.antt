-- `none` owns nothing.
use Rattle.std.proofs.Common.{◌≡◌, [], ◌∷◌, refl, lit<}
use Rattle.std.specs.Prelude.{Option, None}
use base.Logic.{emp}
use base.Fml.{ftrue}
use mir.Val.{Val}
use prog.Wp.{WpFn}
use types.Kit.{‵, raw, ◌⊛◌, ◌$◌, ◌∵◌, !, qed, by, move, keep, drop, split, use0}
use types.Run.{lit, no_more, and_then, returns, enter}
use types.ByLocal.{alloc_all, pass_all, free_all, look_at, sets}
use types.Part.{agg}
use contract.Monad.{fact, fact_i}
use contract.Running.{tables}
use denote.RawPtr.{null_ptr}
use denote.RattleType.{owns}
use denote.Signature.{types_at}
use denote.Steps.{nothing}
use denote.Triple.Walked.{Stays, walk_of}
use Rattle.std.proofs.raw_atomic.Walks.{proved_at, leaves}
use Rattle.am_session.specs.{Session}
use Rattle.am_c.proofs.KeptLemmas.{word, kept_in}
use Rattle.am_c.specs.contracts.kept.Kept.none as f
use Rattle.am_c.specs.contracts.kept.Kept.none.Key.{name as #self}
use Rattle.am_c.proofs.kept.Kept.none.Statement.{statement}
use Rattle.am_c.proofs.kept.Kept.none.Code as code

abbrev nothing_there : Option Session
nothing_there = None

pub none_spec : {M : Type 1} → statement M
none_spec 𝓤 𝓛 𝓜 𝓡 wired =
    let H = 𝓛.H in let 𝓣 = tables 𝓤 H 𝓜 𝓡 𝓡.env in let c = f.clauses 𝓛 𝓜.mem 𝓡.returns in
    let hs : Stays f.ended.signature.params f.ended.kept = tt in
    proved_at 𝓛 f.ended hs c 𝓜 𝓡 tt #self code.function (code.unfolded 𝓤 H 𝓜 𝓡 wired) (λ z are.
    let Post = (walk_of 𝓛 f.ended hs c).post z in
    qed 𝓛 ((‵ ftrue ⊛ ‵ ftrue) ∷ raw ((c z.0.0 z.0.3).requires z.1) ∷ []) ∵
    enter ! 𝓣.C 𝓣.Λ code.function [] Post $ alloc_all ! (λ l. pass_all ! refl tt $
    sets ! (agg ! (and_then ! (lit ! tt) (no_more !))) refl (tt, (record { fits = lit< tt }, tt)) $
    returns ! (look_at ! 0 refl) $ free_all ! refl $
    nothing ! $ kept_in ! null_ptr None $
    use0 𝓛 (raw (fact 𝓤 (nothing_there ≡ nothing_there))) (fact_i 𝓤 (nothing_there ≡ nothing_there) (emp 𝓤) refl) $
    nothing ! $ nothing ! $ keep ! (0 ∷ 1 ∷ 3 ∷ 2 ∷ []) $
    by ! (leaves 𝓛 f.ended hs c z (word null_ptr) (record { at = null_ptr; inside = nothing_there }) tt tt)))
