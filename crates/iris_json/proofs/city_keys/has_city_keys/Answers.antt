use Rattle.std.proofs.Common.{rules}
use Rattle.serde_json.specs.Data.{object}
use Rattle.serde_json.specs.View.{members_view}
use Rattle.iris_json.proofs.CityKeyReading.{some_show}
use Rattle.iris_json.proofs.city_keys.has_city_keys.Goals as goal

pub returns : goal.returns
returns c = (
  λ h. record {
    keys = search rules;
    kinds = c.has_list_of.ensures.0 (search rules);
    agents = c.has_list_of-2.ensures.0 (search rules);
    caps = c.may_have_caps.ensures.0 (search rules);
    place = c.has_list_of-3.ensures.0 (search rules);
    zone = c.may_text.ensures.0 (search rules);
    show = (some_show (object (members_view c.args.members.now.entries)) c.read_show.result c.is_some.result c.read_show.ensures.found c.read_show.ensures.missing c.is_some.ensures).0 h;
  },
  λ keys. (some_show (object (members_view c.args.members.now.entries)) c.read_show.result c.is_some.result c.read_show.ensures.found c.read_show.ensures.missing c.is_some.ensures).1 keys.show,
)
