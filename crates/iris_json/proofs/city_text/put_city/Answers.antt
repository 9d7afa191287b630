use Rattle.std.proofs.Common.{append_assoc}
use Rattle.iris_json.proofs.Written.{city_written}
use Rattle.iris_json.proofs.city_text.put_city.Goals as goal

pub returns-clause-text : goal.returns-clause-text
returns-clause-text c = rw (
  c.in_ok-end_object.ensures,
  c.in_ok-put_back.ensures.text,
  c.in_ok-put_front.ensures,
  c.in_ok-begin_object.ensures,
  city_written c.args.city.now,
)
    (simp append_assoc)
