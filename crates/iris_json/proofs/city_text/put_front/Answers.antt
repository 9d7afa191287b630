use Rattle.std.proofs.Common.{append_assoc}
use Rattle.iris_json.proofs.city_text.put_front.Goals as goal

pub returns : goal.returns
returns c = rw (
  c.in_ok-put_places.ensures,
  c.as_slice-4.ensures,
  c.in_ok-key-4.ensures,
  c.in_ok-put_texts-2.ensures,
  c.as_slice-3.ensures,
  c.in_ok-key-3.ensures,
  c.in_ok-put_caps.ensures,
  c.as_slice-2.ensures,
  c.in_ok-key-2.ensures,
  c.in_ok-put_texts.ensures,
  c.as_slice.ensures,
  c.in_ok-key.ensures,
)
    (simp append_assoc)
