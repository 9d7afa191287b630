use Rattle.std.proofs.Common.{◌∙◌, ◌&&◌, sym, ap, ltb, Bool, Option}
use Rattle.std.proofs.lemmas.Bool.{lt-ltb}
use Rattle.iris_posts.specs.Posts.{Queue, KeptPost, is_over, is_seen}
use Rattle.iris_posts.specs.Slots.{kept_of}
use Rattle.iris_posts.proofs.Numbers.{found_slot, kept_below}
use Rattle.iris_posts.proofs.posts.Posts.is_delivered.Goals as goal

pub returns-in-Some : goal.returns-in-Some
returns-in-Some c =
    let items = c.self.inside.slots.items in
    let made = c.self.inside.made in
    let n = c.args.number in
    let slot = c.index.result.now in
    let found = found_slot items c.as_slice.result.now c.in-Some.at n slot c.as_slice.ensures.value c.in-Some.ensures.within c.in-Some.ensures.post c.index.ensures in
    let given = kept_below 0 made items n (kept_of slot) c.self.invariant.numbered found.1 in
    sym (ap (λ (o : Option KeptPost). ltb n made && is_over o) found.1 ∙ ap (λ (b : Bool). b && slot.delivered) (lt-ltb n made given)) ∙ ap (λ (q : Queue). is_seen q n) c.self.view_is
