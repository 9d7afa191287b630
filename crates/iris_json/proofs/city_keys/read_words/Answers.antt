use Rattle.std.proofs.Common.{ℕ, List, refl, arith, sym, ◌∙◌, ap, true≢false, bytes_eq}
use Rattle.std.specs.List.{list_any}
use Rattle.serde_json.specs.Data.{string}
use Rattle.iris_base.specs.Forms.{IsWord}
use Rattle.iris_json.proofs.KindReading.{empty, not_empty, mapped_len, string_once, so_start, so_step, so_found, next_word}
use Rattle.iris_json.proofs.city_keys.read_words.Goals as goal

pub returns-then-is_empty-clause-refused : goal.returns-then-is_empty-clause-refused
returns-then-is_empty-clause-refused g c words same are = omega (arith, mapped_len string c.args.items.now words same, are.some, empty _ _ c.is_empty.ensures c.if-is_empty.true)

pub returns-then-items-most-clause-refused : goal.returns-then-items-most-clause-refused
returns-then-items-most-clause-refused g c words same are = omega (arith, mapped_len string c.args.items.now words same, are.few, c.if-items-most.true)

pub loop-item-init : goal.loop-item-init
loop-item-init g c = so_start (IsWord g.F.Spelled.form.first g.F.Spelled.form.later g.F.Spelled.form.most) _ _ c.new-words.ensures.items

pub returns-in_default-clause-refused : goal.returns-in_default-clause-refused
returns-in_default-clause-refused g c words same are =
    let next = next_word (IsWord g.F.Spelled.form.first g.F.Spelled.form.later g.F.Spelled.form.most) c.args.most c.args.items.now c.loop-item.item-index c.loop-item.words.items words c.loop-item.invariant c.item-item.result c.loop-item-test.true c.item-item.is same are in
    c.in_default.ensures.missing refl next.0 next.1 next.2

pub returns-then-contains-clause-refused : goal.returns-then-contains-clause-refused
returns-then-contains-clause-refused g c words same are =
    let next = next_word (IsWord g.F.Spelled.form.first g.F.Spelled.form.later g.F.Spelled.form.most) c.args.most c.args.items.now c.loop-item.item-index c.loop-item.words.items words c.loop-item.invariant c.item-item.result c.loop-item-test.true c.item-item.is same are in
    let read = string_once c.in-Some.word next.0 (sym c.in-Some.ensures.found.0 ∙ next.1) in
    let fresh = ap (λ (k : List ℕ). list_any (λ y. bytes_eq y k) c.loop-item.words.items) read ∙ next.3 in
    let asked = c.contains.ensures.value ∙ ap (list_any (λ y. bytes_eq y c.in-Some.word)) c.deref.ensures.value in
    true≢false (sym c.if-contains.true ∙ asked ∙ fresh)

pub loop-item-preserved : goal.loop-item-preserved
loop-item-preserved g c =
    so_step (IsWord g.F.Spelled.form.first g.F.Spelled.form.later g.F.Spelled.form.most) _ _ _ c.loop-item.invariant c.item-item.result c.loop-item-test.true c.item-item.is c.in-Some.word c.in-Some.ensures.found (sym c.if-contains.false ∙ c.contains.ensures.value ∙ ap (list_any (λ y. bytes_eq y c.in-Some.word)) c.deref.ensures.value) _ c.in_ok-push.ensures.items

pub returns-clause-found : goal.returns-clause-found
returns-clause-found g c =
    rw c.from_vec.ensures (so_found (IsWord g.F.Spelled.form.first g.F.Spelled.form.later g.F.Spelled.form.most) c.args.most _ _ _ c.loop-item.invariant c.loop-item-test.false (not_empty _ _ c.is_empty.ensures c.if-is_empty.false) (omega (arith, c.if-items-most.false)))
