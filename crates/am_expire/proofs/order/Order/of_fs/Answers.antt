use Rattle.std.proofs.Common.{◌≡◌, ◌≤◌, length, arith}
use Rattle.std.proofs.lemmas.List.{length-map}
use Rattle.am_expire.specs.{row_at, rows_at}
use Rattle.am_expire.proofs.OrderLemmas.{start_end, run_of}
use Rattle.am_expire.proofs.order.Order.of_fs.Goals as goal

pub returns-clause-part : goal.returns-clause-part
returns-clause-part c =
    let uses = c.args.triggers.now.rows.uses in
    let places = c.args.self.now.places.items in
    let long : length (rows_at uses places) ≡ length places = length-map places (row_at uses) in
    let fits = c.args.self.now.places.ok.0 in
    let below : c.start.result ≤ length (rows_at uses places) = omega (arith, long, fits, c.start.ensures.bound) in
    record {
      listed = c.requires;
      up = start_end (rows_at uses places) c.args.fs c.start.result c.end.result below c.start.ensures.start c.end.ensures.end;
      within = omega (arith, fits, c.end.ensures.bound);
    }

pub returns-clause-rows : goal.returns-clause-rows
returns-clause-rows c =
    let uses = c.args.triggers.now.rows.uses in
    let places = c.args.self.now.places.items in
    let rows = rows_at uses places in
    let long : length rows ≡ length places = length-map places (row_at uses) in
    let fits = c.args.self.now.places.ok.0 in
    let below : c.start.result ≤ length rows = omega (arith, long, fits, c.start.ensures.bound) in
    let within : c.end.result ≤ length rows = omega (arith, long, fits, c.end.ensures.bound) in
    let up = start_end rows c.args.fs c.start.result c.end.result below c.start.ensures.start c.end.ensures.end in
    run_of rows c.args.fs c.start.result c.end.result up within c.start.ensures.start c.end.ensures.end
