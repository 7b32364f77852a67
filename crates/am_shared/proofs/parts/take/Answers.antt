use Rattle.std.proofs.Common.{◌≡◌, ◌∙◌, [], ◌++◌, Vec, Global, arith, length, length-append, append-nil, ap, sym}
use Rattle.std.proofs.Math.Seq.{drop-append_seam}
use Rattle.am_machine.specs.{Entry}
use Rattle.am_shared.specs.{sharing_of}
use Rattle.am_shared.proofs.parts.take.Goals as goal

pub returns-clause-entries : goal.returns-clause-entries
returns-clause-entries c =
    let parts = c.args.parts.now in
    ap (λ (v : Vec Entry Global). v.items) c.replace-entries.ensures.value
    ∙ sym (drop-append_seam parts.taken.items parts.history.items)

pub returns-clause-taken : goal.returns-clause-taken
returns-clause-taken c =
    let parts = c.args.parts.now in
    let taken = parts.taken.items in
    let gone : c.and-parts.result.items ≡ taken ++ parts.history.items =
    c.and-parts.ensures ∙ ap (λ (v : Vec Entry Global). taken ++ v.items) c.replace-entries.ensures.value in
    let none : c.replace-entries.new.dest.items ≡ [] =
    ap (λ (v : Vec Entry Global). v.items) c.replace-entries.ensures.after ∙ c.new.ensures.items in
    let history = (λ i. gone i ++ none i) ∙ append-nil (taken ++ parts.history.items) in
    λ i. record (sharing_of parts) { history = history i; taken = length (gone i) }

pub returns-clause-counted : goal.returns-clause-counted
returns-clause-counted c =
    let parts = c.args.parts.now in
    let entries = c.replace-entries.result.items in
    let value : entries ≡ parts.history.items = ap (λ (v : Vec Entry Global). v.items) c.replace-entries.ensures.value in
    let none : c.replace-entries.new.dest.items ≡ [] =
    ap (λ (v : Vec Entry Global). v.items) c.replace-entries.ensures.after ∙ c.new.ensures.items in (
      omega (arith, c.requires.counted.0, ap length c.and-parts.ensures, ap length value, length-append parts.taken.items entries),
      omega (arith, c.requires.counted.1, ap length value, ap length none),
    )
