-- How bars stand in the world. Own choice (docs/FORMATS.md, "Pictures").
use Rattle.std.specs.Prelude.{◌≡◌, ℕ, ◌==◌, false, List, [], ◌∷◌, ◌++◌, length, Option, None, Some, if◌then◌else◌}
use Rattle.std.specs.Option.{option_map}
use Rattle.am_names.specs.{TokenKind}
use Rattle.am_names.specs.declared.row.TokenKind.TheVariants as kinds
use Rattle.am_state.specs.{Obs}
use Rattle.am_state.specs.declared.obs.Obs.TheVariants as seen
use Rattle.am_wait.specs.{token_of}
use Rattle.am_machine.specs.{Setup, initial_state_of}
use Rattle.am_machine.specs.State.{State}
use Rattle.am_script.specs.{Numbered}
use Rattle.am_lanes.specs.{HaveBars, Look}
use Rattle.am_lanes.specs.Changes.{unless_ended}
use Rattle.am_lanes.specs.declared.holder.Ending.TheVariants.{In, Of}
use Rattle.am_lanes.specs.declared.holder.Look.TheVariants as looks
use Rattle.am_draw.specs.declared.part.Part.{Part}
use Rattle.am_draw.specs.Changes.{HaveFailures}
use Rattle.am_draw.specs.Drawn.{Viewed, ViewedRun, asked_in, first_lasts, lasts_behind, size_of}
use Rattle.am_draw.specs.Lasting.{Lasts, token_look}
use Rattle.am_draw.specs.Parts.{is_past}
use Rattle.am_draw.specs.Standings.{AreApart, Standing, stands}
use Rattle.am_draw.specs.Standings.Standing.{IsInside, Rests, Waits}

-- ---- bars in a world

-- the bar of a walker that stands so
abbrev pub standing_bar : Standing → Option Look
standing_bar Rests = None
standing_bar Waits = Some looks.Waits
standing_bar IsInside = Some looks.Inside

-- the bar of a walker: one where it waits on a token that isn't acknowledged, another where it is inside
-- a mount
abbrev pub walker_bar : State → ℕ → Option Look
walker_bar s walker = standing_bar (stands walker s.kernel.waits.waits s.kernel.uses)

-- how an open token of this kind looks, of this file system
abbrev pub kind_look : TokenKind → ℕ → Look
kind_look kinds.Missing fs = looks.Missing fs
kind_look kinds.Expire fs = looks.Expire fs

-- the bar of a token: one where it is open
abbrev pub token_bar : State → ℕ → Option Look
token_bar s token = option_map (λ row. kind_look row.kind row.trigger.fs) (token_of s.kernel.waits.tokens token)

-- who has a bar is who waits, who is inside a mount, what is open and what failed and lasts in this world,
-- each in one lane; and no walker that waits is inside
pub record BarsAreOfTheWorld (lasts : Lasts) (s : State) : Type 0 where
  pub tokens : HaveBars lasts.tokens (token_bar s)
  pub walkers : HaveBars lasts.walkers (walker_bar s)
  pub failures : HaveFailures lasts.failures s.kernel
  pub apart : AreApart s.kernel.waits.waits s.kernel.uses

-- Where a part of a picture has as many lanes as a run of all events comes to from a world's opening, these
-- events come first of them, and the last of them isn't behind the part, the bars are those of the world
-- behind it.
abbrev pub BarsTellTheWorld : Type 0
BarsTellTheWorld =
    (part : Part) (opening : Setup) (ends now : State) (all rows : List Viewed) (left : List Numbered) →
    ViewedRun (initial_state_of opening) all ends → ViewedRun (initial_state_of opening) rows now →
    asked_in all ≡ asked_in rows ++ left →
    part.size ≡ size_of (initial_state_of opening) all → is_past part (length rows) ≡ false →
    BarsAreOfTheWorld (lasts_behind part 1 (first_lasts part) rows) now

-- ---- the bar of a token, by what was seen of it

-- once this was seen
abbrev pub then_bar_of : ℕ → Option Look → Obs → Option Look
then_bar_of token bar (seen.Queued other attach packet) =
    if other == token then Some (token_look packet.kind packet.dev) else bar
then_bar_of token bar (seen.Answered other status) = unless_ended (Of other) token bar
then_bar_of token bar (seen.Catatonic fs) = unless_ended (In fs) token bar
then_bar_of token bar _ = bar

-- once all of these were seen, in order
abbrev pub bar_seen : ℕ → Option Look → List Obs → Option Look
bar_seen token bar [] = bar
bar_seen token bar (obs ∷ later) = bar_seen token (then_bar_of token bar obs) later
