use Rattle.std.proofs.Common.{append_assoc}
use Rattle.iris_json.proofs.item.begin_node.Goals as goal

pub returns : goal.returns
returns c = rw (
  c.in_ok-begin_array.ensures,
  c.in_ok-key-4.ensures,
  c.in_ok-string-2.ensures,
  c.as_str-2.ensures.value,
  c.label-2.ensures,
  c.in_ok-key-3.ensures,
  c.in_ok-string.ensures,
  c.as_str.ensures.value,
  c.label.ensures,
  c.in_ok-key-2.ensures,
  c.in_ok-write.ensures,
  c.local.ensures,
  c.in_ok-key.ensures,
  c.in_ok-begin_object.ensures,
)
    (simp append_assoc)
