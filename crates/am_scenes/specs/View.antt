-- What the fields of a scene that is being read stand for.
use Rattle.std.specs.Prelude.{List, map, Option, None, Some, Vec}
use Rattle.std.specs.Option.{option_map}
use Rattle.am_names.specs.declared.fail_no.FailNo.{FailNo}
use Rattle.am_explore.specs.declared.scene.Service.{Service}
use Rattle.am_scenes.specs.declared.gathered.Gathered.TheInside.{Inside}
use Rattle.am_scenes.specs.Asking.{asked_line}
use Rattle.am_scenes.specs.SoFar.{SceneSoFar}

-- how the acts of a daemon may come out, if it serves
abbrev pub results_in : Option Service → Option (List (Option FailNo))
results_in service = option_map (λ (s : Service). s.results.items) service

-- what the lines so far have said, as the fields keep it
abbrev pub view_of : Inside → SceneSoFar
view_of g = record {
  names = g.names.items;
  threads = g.threads.items;
  within = g.within;
  service = results_in g.service;
  asked = map asked_line g.asked.items;
}

-- the items of a list, if there is one
abbrev pub items_in : {A Z : Type 0} → Option (Vec A Z) → Option (List A)
items_in None = None
items_in (Some list) = Some list.items
