use Rattle.iris_json.proofs.out_text.write_bad_query.Goals as goal

pub returns-in-TooLarge : goal.returns-in-TooLarge
returns-in-TooLarge c = rw (c.in-TooLarge.is, ← c.as_str-in-TooLarge.ensures) c.write_row-in-TooLarge.ensures
