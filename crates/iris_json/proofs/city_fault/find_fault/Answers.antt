use Rattle.std.proofs.Common.{ℕ, List, Bor, subst}
use Rattle.serde_json.specs.declared.value.Value.{Value}
use Rattle.serde_json.specs.Data.{object}
use Rattle.serde_json.specs.View.{view, members_view}
use Rattle.iris_json.specs.CityFaults.{IsShaped}
use Rattle.iris_json.specs.CityKeys.{CapsAt}
use Rattle.iris_json.proofs.CityFaults.{lacks_shape, lacks_kinds, lacks_agents, lacks_caps, has_none, line_told, if_some}
use Rattle.iris_json.proofs.city_fault.find_fault.Goals as goal

pub returns-in_default : goal.returns-in_default
returns-in_default c = line_told (object (members_view c.args.members.now.entries)) c.of_line.result _ c.of_line.ensures.node c.of_line.ensures.why (lacks_shape (object (members_view c.args.members.now.entries)) (c.in_ok-tree.ensures.missing c.in_default.is))

pub returns-in-Err-Shape : goal.returns-in-Err-Shape
returns-in-Err-Shape c =
    let s = if_some (λ (tree : Bor Value). IsShaped (object (members_view c.args.members.now.entries)) (view tree.now)) c.in_ok-tree.field-0 c.in-Some.tree c.in_ok-tree.ensures.found c.in-Some.is in
    line_told (object (members_view c.args.members.now.entries)) c.of_line-in-Err-Shape.result _ c.of_line-in-Err-Shape.ensures.node c.of_line-in-Err-Shape.ensures.why
    (lacks_kinds (object (members_view c.args.members.now.entries)) (view c.in-Some.tree.now) s (has_none c.in-Err-Shape.field-0 _ c.in-Err-Shape.field-0-is c.in-Err-Shape.ensures.refused))

pub returns-in-Err-Shape-read_agents : goal.returns-in-Err-Shape-read_agents
returns-in-Err-Shape-read_agents c =
    let s = if_some (λ (tree : Bor Value). IsShaped (object (members_view c.args.members.now.entries)) (view tree.now)) c.in_ok-tree.field-0 c.in-Some.tree c.in_ok-tree.ensures.found c.in-Some.is in
    line_told (object (members_view c.args.members.now.entries)) c.of_line-in-Err-Shape-read_agents.result _ c.of_line-in-Err-Shape-read_agents.ensures.node c.of_line-in-Err-Shape-read_agents.ensures.why
    (lacks_agents (object (members_view c.args.members.now.entries)) (view c.in-Some.tree.now) c.in-Ok.kinds s c.in-Ok.ensures.found (has_none c.in-Err-Shape-read_agents.field-0 _ c.in-Err-Shape-read_agents.field-0-is c.in-Err-Shape-read_agents.ensures.refused))

pub returns-in-Err-Shape-read_caps : goal.returns-in-Err-Shape-read_caps
returns-in-Err-Shape-read_caps c =
    let s = if_some (λ (tree : Bor Value). IsShaped (object (members_view c.args.members.now.entries)) (view tree.now)) c.in_ok-tree.field-0 c.in-Some.tree c.in_ok-tree.ensures.found c.in-Some.is in
    line_told (object (members_view c.args.members.now.entries)) c.of_line-in-Err-Shape-read_caps.result _ c.of_line-in-Err-Shape-read_caps.ensures.node c.of_line-in-Err-Shape-read_caps.ensures.why
    (lacks_caps (object (members_view c.args.members.now.entries)) (view c.in-Some.tree.now) c.in-Ok.kinds c.in-Ok-read_agents.agents s c.in-Ok.ensures.found c.in-Ok-read_agents.ensures.found
    (subst (λ (ids : List (List ℕ)). (caps : List ℕ) → CapsAt (object (members_view c.args.members.now.entries)) ids caps → ⊥) c.as_slice.ensures (has_none c.in-Err-Shape-read_caps.field-0 _ c.in-Err-Shape-read_caps.field-0-is c.in-Err-Shape-read_caps.ensures.refused)))
