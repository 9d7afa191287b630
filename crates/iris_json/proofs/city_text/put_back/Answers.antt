use Rattle.std.proofs.Common.{append_assoc}
use Rattle.iris_json.proofs.city_text.put_back.Goals as goal

pub returns-clause-text : goal.returns-clause-text
returns-clause-text c = rw (
  c.in_ok-string-2.ensures,
  c.as_str.ensures.text,
  c.in_ok-key-3.ensures,
  c.in_ok-put_tree.ensures.text,
  c.in_ok-key-2.ensures,
  c.in_ok-string.ensures,
  c.show_word.ensures,
  c.in_ok-key.ensures,
)
    (simp append_assoc)
