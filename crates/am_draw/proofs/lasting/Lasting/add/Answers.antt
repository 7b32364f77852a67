use Rattle.std.proofs.Common.{◌≡◌, OnOk, ap, subst, ◌∙◌}
use Rattle.am_draw.specs.{Lasts, acted, lasts_of, roomed_for, seen_added, turned_added}
use Rattle.am_draw.proofs.lasting.Lasting.add.Goals as goal

pub returns : goal.returns
returns c =
    let number = c.args.number in
    let event = c.args.event.now in
    let seen = c.args.seen.now in
    let seen_is : lasts_of c.add_by.new.self ≡ seen_added number (acted number (roomed_for (lasts_of c.args.self.now) event) event) seen =
    c.in_ok-add_by.ensures
    ∙ ap (λ (l : Lasts). seen_added number l seen) (c.act.ensures ∙ ap (λ (l : Lasts). acted number l event) c.in_ok-make_room_for.ensures) in
    subst (λ (l : Lasts). OnOk c.add_turn.result (lasts_of c.add_turn.new.self ≡ turned_added number c.args.world.now.kernel l)) seen_is c.add_turn.ensures
