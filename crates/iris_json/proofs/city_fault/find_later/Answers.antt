use Rattle.serde_json.specs.Data.{object}
use Rattle.serde_json.specs.View.{view, members_view}
use Rattle.iris_json.specs.declared.city.CityWhy.TheVariants.{Label as label_row, Twin, Attribute, Plain}
use Rattle.iris_json.proofs.CityFaults.{Front, told_none, told_some, lacks_label, lacks_twin, lacks_attribute, lacks_plain, lacks_place, lacks_zone, has_none, line_told}
use Rattle.iris_json.proofs.city_fault.find_later.Goals as goal

pub returns-in-Some : goal.returns-in-Some
returns-in-Some c =
    let front : Front (object (members_view c.args.members.now.entries)) (view c.args.tree.now) c.args.kinds.now c.args.agents.now = record { shape = c.requires.shape; kinds_at = c.requires.kinds; agents_at = c.requires.agents; caps = c.requires.caps } in
    lacks_label (object (members_view c.args.members.now.entries)) (view c.args.tree.now) c.args.kinds.now c.args.agents.now c.in-Some.fault front (told_some label_row c.args.kinds.now (view c.args.tree.now) _ c.in-Some.fault c.in_ok-fault.ensures c.in-Some.is)

pub returns-in-Some-2 : goal.returns-in-Some-2
returns-in-Some-2 c =
    let front : Front (object (members_view c.args.members.now.entries)) (view c.args.tree.now) c.args.kinds.now c.args.agents.now = record { shape = c.requires.shape; kinds_at = c.requires.kinds; agents_at = c.requires.agents; caps = c.requires.caps } in
    lacks_twin (object (members_view c.args.members.now.entries)) (view c.args.tree.now) c.args.kinds.now c.args.agents.now c.in-Some-2.fault front (told_none label_row c.args.kinds.now (view c.args.tree.now) _ c.in_ok-fault.ensures c.in_default.is) (told_some Twin c.args.kinds.now (view c.args.tree.now) _ c.in-Some-2.fault c.in_ok-fault-2.ensures c.in-Some-2.is)

pub returns-in-Some-3 : goal.returns-in-Some-3
returns-in-Some-3 c =
    let front : Front (object (members_view c.args.members.now.entries)) (view c.args.tree.now) c.args.kinds.now c.args.agents.now = record { shape = c.requires.shape; kinds_at = c.requires.kinds; agents_at = c.requires.agents; caps = c.requires.caps } in
    lacks_attribute (object (members_view c.args.members.now.entries)) (view c.args.tree.now) c.args.kinds.now c.args.agents.now c.in-Some-3.fault front (told_none label_row c.args.kinds.now (view c.args.tree.now) _ c.in_ok-fault.ensures c.in_default.is) (told_none Twin c.args.kinds.now (view c.args.tree.now) _ c.in_ok-fault-2.ensures c.in_default-2.is) (told_some Attribute c.args.kinds.now (view c.args.tree.now) _ c.in-Some-3.fault c.in_ok-fault-3.ensures c.in-Some-3.is)

pub returns-in-Some-4 : goal.returns-in-Some-4
returns-in-Some-4 c =
    let front : Front (object (members_view c.args.members.now.entries)) (view c.args.tree.now) c.args.kinds.now c.args.agents.now = record { shape = c.requires.shape; kinds_at = c.requires.kinds; agents_at = c.requires.agents; caps = c.requires.caps } in
    lacks_plain (object (members_view c.args.members.now.entries)) (view c.args.tree.now) c.args.kinds.now c.args.agents.now c.in-Some-4.fault front (told_none label_row c.args.kinds.now (view c.args.tree.now) _ c.in_ok-fault.ensures c.in_default.is) (told_none Twin c.args.kinds.now (view c.args.tree.now) _ c.in_ok-fault-2.ensures c.in_default-2.is) (told_none Attribute c.args.kinds.now (view c.args.tree.now) _ c.in_ok-fault-3.ensures c.in_default-3.is) (told_some Plain c.args.kinds.now (view c.args.tree.now) _ c.in-Some-4.fault c.in_ok-fault-4.ensures c.in-Some-4.is)

pub returns-in-Ok : goal.returns-in-Ok
returns-in-Ok c =
    let front : Front (object (members_view c.args.members.now.entries)) (view c.args.tree.now) c.args.kinds.now c.args.agents.now = record { shape = c.requires.shape; kinds_at = c.requires.kinds; agents_at = c.requires.agents; caps = c.requires.caps } in
    line_told (object (members_view c.args.members.now.entries)) _ _ c.of_line.ensures.node c.of_line.ensures.why (lacks_zone (object (members_view c.args.members.now.entries)) (view c.args.tree.now) c.args.kinds.now c.args.agents.now c.in_ok-top.top c.in-Ok.field-0 front (told_none label_row c.args.kinds.now (view c.args.tree.now) _ c.in_ok-fault.ensures c.in_default.is) (told_none Twin c.args.kinds.now (view c.args.tree.now) _ c.in_ok-fault-2.ensures c.in_default-2.is) (told_none Attribute c.args.kinds.now (view c.args.tree.now) _ c.in_ok-fault-3.ensures c.in_default-3.is) (told_none Plain c.args.kinds.now (view c.args.tree.now) _ c.in_ok-fault-4.ensures c.in_default-4.is) c.in_ok-top.ensures c.in-Ok.ensures.found.0 c.in-Ok.ensures.found.1 c.requires.none)

pub returns-in-Err-Shape : goal.returns-in-Err-Shape
returns-in-Err-Shape c =
    let front : Front (object (members_view c.args.members.now.entries)) (view c.args.tree.now) c.args.kinds.now c.args.agents.now = record { shape = c.requires.shape; kinds_at = c.requires.kinds; agents_at = c.requires.agents; caps = c.requires.caps } in
    line_told (object (members_view c.args.members.now.entries)) _ _ c.of_line-in-Err-Shape.ensures.node c.of_line-in-Err-Shape.ensures.why (lacks_place (object (members_view c.args.members.now.entries)) (view c.args.tree.now) c.args.kinds.now c.args.agents.now c.in_ok-top.top front (told_none label_row c.args.kinds.now (view c.args.tree.now) _ c.in_ok-fault.ensures c.in_default.is) (told_none Twin c.args.kinds.now (view c.args.tree.now) _ c.in_ok-fault-2.ensures c.in_default-2.is) (told_none Attribute c.args.kinds.now (view c.args.tree.now) _ c.in_ok-fault-3.ensures c.in_default-3.is) (told_none Plain c.args.kinds.now (view c.args.tree.now) _ c.in_ok-fault-4.ensures c.in_default-4.is) c.in_ok-top.ensures (has_none c.in-Err-Shape.field-0 _ c.in-Err-Shape.field-0-is c.in-Err-Shape.ensures.refused))
