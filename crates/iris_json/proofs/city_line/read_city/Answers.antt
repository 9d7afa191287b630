use Rattle.std.proofs.Common.{ap, sym, ◌∙◌, inr}
use Rattle.std.proofs.lemmas.Result.{err_from_is_err_and}
use Rattle.serde_json.specs.View.{view}
use Rattle.iris_json.specs.Extents.{passed_by_extent}
use Rattle.iris_json.proofs.CityNodes.{tree_fits}
use Rattle.iris_json.proofs.CityReading.{none_given, row_refused, parts_of, no_limit, same_city}
use Rattle.iris_json.proofs.city_line.read_city.Goals as goal

pub returns-in_err-parts-clause-only : goal.returns-in_err-parts-clause-only
returns-in_err-parts-clause-only c city reads =
    let p = err_from_is_err_and c.from_residual-in_err-parts.result c.from_residual-in_err-parts.ensures.1 in
    rw (p.1, p.2) (none_given c.args.bytes.now _ _ c.in_ok-value.ensures.found c.in_err-parts.ensures.none city reads)

pub returns-in_err-parts-clause-refused : goal.returns-in_err-parts-clause-refused
returns-in_err-parts-clause-refused c =
    let p = err_from_is_err_and c.from_residual-in_err-parts.result c.from_residual-in_err-parts.ensures.1 in
    rw (p.1, p.2) (row_refused c.args.bytes.now _ _ c.if-bytes-gt-MAX_CITY_BYTES.false c.in_ok-value.ensures.found c.in_err-parts.ensures.refused)

pub returns-in-Some-clause-only : goal.returns-in-Some-clause-only
returns-in-Some-clause-only c city reads =
    no_limit c.args.bytes.now _ c.in_ok-parts.parts city c.in-Some.which c.in-Some.count c.in_ok-value.ensures.found c.in_ok-parts.ensures.found (sym (c.passed.ensures ∙ ap passed_by_extent c.of.ensures) ∙ c.in-Some.is) reads

pub returns-in-Some-clause-refused : goal.returns-in-Some-clause-refused
returns-in-Some-clause-refused c =
    inr (
      c.if-bytes-gt-MAX_CITY_BYTES.false,
      (
        _,
        c.in_ok-value.ensures.found,
        record {
          kinds = c.in_ok-parts.parts.kinds;
          agents = c.in_ok-parts.parts.agents;
          caps = c.in_ok-parts.parts.caps;
          place = c.in_ok-parts.parts.place;
          tree = c.in_ok-parts.parts.tree;
          zone = c.in_ok-parts.parts.zone;
          show = c.in_ok-parts.parts.show;
          says = c.in_ok-parts.ensures.found;
          passed = sym (c.passed.ensures ∙ ap passed_by_extent c.of.ensures) ∙ c.in-Some.is;
        },
      ),
    )

pub city_of-requires-clause-nodes : goal.city_of-requires-clause-nodes
city_of-requires-clause-nodes c = tree_fits _ c.in_ok-parts.ensures.found.tree_at.0 _ c.in_ok-parts.ensures.found.tree_at.2 c.in_ok-parts.ensures.form (sym (c.passed.ensures ∙ ap passed_by_extent c.of.ensures) ∙ c.in_default.is)

pub returns-clause-only : goal.returns-clause-only
returns-clause-only c city reads =
    let s = parts_of c.args.bytes.now _ c.in_ok-parts.parts city c.in_ok-value.ensures.found c.in_ok-parts.ensures.found reads in
    same_city _ city (c.city_of.ensures.kinds ∙ s.0, c.city_of.ensures.agents ∙ s.1, c.city_of.ensures.caps ∙ s.2, c.city_of.ensures.place ∙ s.3, c.city_of.ensures.tree ∙ s.4, c.city_of.ensures.zone ∙ s.5, c.city_of.ensures.show ∙ s.6)
