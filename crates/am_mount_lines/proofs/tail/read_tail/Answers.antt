use Rattle.std.proofs.Common.{◌≡◌, ℕ, List, sym, subst, codes, bytes_eq}
use Rattle.std.specs.List.{list_any}
use Rattle.std.proofs.lemmas.Result.{err_from_is_err_and}
use Rattle.am_mount_lines.specs.Lines.{field_read}
use Rattle.am_mount_lines.proofs.Tails.{bad_group, bad_master, fields_at, trap_at, whole_tail}
use Rattle.am_mount_lines.proofs.tail.read_tail.Goals as goal

pub returns-in_err-field_read-clause-err : goal.returns-in_err-field_read-clause-err
returns-in_err-field_read-clause-err c =
    let p = err_from_is_err_and c.from_residual.result c.from_residual.ensures.1 in
    let told = c.in_err-field_read.ensures in
    rw (p.1, p.2) (bad_group (λ word. word.now) c.args.rest.now c.in-Some.at (sym c.in-Some.ensures) c.if-rest-at.false
    c.in_err-field_read.field-0.0 told.bad told.err)

pub returns-in_err-field_read-2-clause-err : goal.returns-in_err-field_read-2-clause-err
returns-in_err-field_read-2-clause-err c =
    let p = err_from_is_err_and c.from_residual-in_err-field_read-2.result
    c.from_residual-in_err-field_read-2.ensures.1 in
    let told = c.in_err-field_read-2.ensures in
    rw (p.1, p.2) (bad_master (λ word. word.now) c.args.rest.now c.in-Some.at (sym c.in-Some.ensures) c.if-rest-at.false
    c.in_err-field_read-2.field-0.0 c.in_ok-field_read.ensures.whole told.bad told.err)

pub returns-clause-ok : goal.returns-clause-ok
returns-clause-ok c =
    let dash = sym c.in-Some.ensures in
    let fields = fields_at (λ word. word.now) c.args.rest.now c.in-Some.at dash in
    record {
      group = subst (λ (fs : List (List ℕ)). field_read (codes "shared:") fs ≡ c.in_ok-field_read.field-0)
          fields (sym c.in_ok-field_read.ensures.ok);
      master = subst (λ (fs : List (List ℕ)). field_read (codes "master:") fs ≡ c.in_ok-field_read-2.field-0)
          fields (sym c.in_ok-field_read-2.ensures.ok);
      unbindable = subst
          (λ (fs : List (List ℕ)). c.is_unbindable.result ≡ list_any (λ field. bytes_eq field (codes "unbindable")) fs)
          fields c.is_unbindable.ensures;
      trap = trap_at (λ word. word.now) c.args.rest.now c.in-Some.at c.word_at.result.now
          c.last_word.result.now c.trap_of.result dash
          c.word_at.ensures c.last_word.ensures c.trap_of.ensures;
    }

pub returns-clause-whole : goal.returns-clause-whole
returns-clause-whole c =
    whole_tail (λ word. word.now) c.args.rest.now c.in-Some.at (sym c.in-Some.ensures) c.if-rest-at.false
    c.in_ok-field_read.ensures.whole c.in_ok-field_read-2.ensures.whole
