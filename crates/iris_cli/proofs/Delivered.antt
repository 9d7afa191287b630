-- Deliveries one after another, and the bytes of their lines.
use Rattle.std.proofs.Common.{◌≡◌, ℕ, List, [], ◌∷◌, ◌++◌, refl, ap, sym, ◌∙◌, subst, append_assoc, append-nil, Option, Err}
use Rattle.std.specs.Io.KnownBytes.{Appends}
use Rattle.std.proofs.KnownBytes.{Appends-nil, Appends-trans}
use Rattle.std.proofs.lemmas.Grind.{flat_map-append}
use Rattle.iris_json.specs.declared.out.Out.{Out}
use Rattle.iris_cli.specs.declared.halt.Halt.{Halt}
use Rattle.iris_cli.specs.declared.session.Posted.{Posted}
use Rattle.iris_base.specs.Outside.{Puts}
use Rattle.iris_cli.specs.Run.{SiteState, out_line, out_lines, delivered, after_delivery, all_delivered, after_all}
use Rattle.iris_cli.proofs.Putting.{lines_and, puts_before, puts_then}

-- some of what was posted is delivered, its lines are added, and the rest is left
pub record DeliveredSo (h : SiteState) (posted : List Posted) (now : SiteState) (left : List Posted) (old new : Option (List ℕ)) : Type 0 where
  pub done : List Out
  pub lines : all_delivered h posted ≡ done ++ all_delivered now left
  pub leaves : after_all h posted ≡ after_all now left
  pub added : Appends old new (out_lines done)

pub none_delivered : (h : SiteState) (posted : List Posted) (old : Option (List ℕ)) → DeliveredSo h posted h posted old old
none_delivered h posted old = record { done = []; lines = refl; leaves = refl; added = Appends-nil old }

one_delivered : (h now next : SiteState) (posted left : List Posted) (p : Posted) (old mid new : Option (List ℕ)) → DeliveredSo h posted now (p ∷ left) old mid → next ≡ after_delivery now p.request p.sent → Appends mid new (out_line (delivered now p.request p.sent))
    → DeliveredSo h posted next left old new
one_delivered h now next posted left p old mid new so is a =
    let line = delivered now p.request p.sent in
    let rest = all_delivered (after_delivery now p.request p.sent) left in
    record {
      done = so.done ++ line ∷ [];
      lines = so.lines ∙ sym (append_assoc so.done (line ∷ []) rest) ∙ ap (λ (u : SiteState). (so.done ++ line ∷ []) ++ all_delivered u left) (sym is);
      leaves = so.leaves ∙ ap (λ (u : SiteState). after_all u left) (sym is);
      added = subst (λ (v : List ℕ). Appends old new v) (sym (lines_and so.done line)) (Appends-trans old mid new (out_lines so.done) (out_line line) so.added a);
    }

-- all lines were added
pub delivered_all : (h now : SiteState) (posted : List Posted) (old new : Option (List ℕ)) → DeliveredSo h posted now [] old new → Appends old new (out_lines (all_delivered h posted))
delivered_all h now posted old new so = subst (λ (v : List Out). Appends old new (out_lines v)) (sym (so.lines ∙ append-nil so.done)) so.added

-- the next line was added in part
delivers_part : (h now : SiteState) (posted left : List Posted) (p : Posted) (old mid new : Option (List ℕ)) (halt : Halt) → DeliveredSo h posted now (p ∷ left) old mid → Puts mid new (Err halt) (out_line (delivered now p.request p.sent))
    → Puts old new (Err halt) (out_lines (all_delivered h posted))
delivers_part h now posted left p old mid new halt so part =
    let line = delivered now p.request p.sent in
    let rest = out_lines (all_delivered (after_delivery now p.request p.sent) left) in
    let all : out_lines (all_delivered h posted) ≡ out_lines so.done ++ (out_line line ++ rest) = ap out_lines so.lines ∙ flat_map-append out_line so.done (line ∷ all_delivered (after_delivery now p.request p.sent) left) in
    subst (λ (v : List ℕ). Puts old new (Err halt) v) (sym all) (puts_then old mid new (Err halt) (out_lines so.done) (out_line line ++ rest) so.added (puts_before mid new halt (out_line line) rest part))

-- the first of what is left was delivered, and its line added
pub delivered_more : (h now next : SiteState) (posted before left : List Posted) (p : Posted) (out : Out) (old mid new : Option (List ℕ)) → DeliveredSo h posted now before old mid → before ≡ p ∷ left → next ≡ after_delivery now p.request p.sent
    → out ≡ delivered now p.request p.sent → Appends mid new (out_line out) → DeliveredSo h posted next left old new
delivered_more h now next posted before left p out old mid new so first is line a =
    one_delivered h now next posted left p old mid new (subst (λ (ps : List Posted). DeliveredSo h posted now ps old mid) first so) is (subst (λ (v : Out). Appends mid new (out_line v)) line a)

-- the first of what is left was delivered, and its line added in part
pub delivers_less : (h now : SiteState) (posted before left : List Posted) (p : Posted) (out : Out) (old mid new : Option (List ℕ)) (halt : Halt) → DeliveredSo h posted now before old mid → before ≡ p ∷ left → out ≡ delivered now p.request p.sent
    → Puts mid new (Err halt) (out_line out) → Puts old new (Err halt) (out_lines (all_delivered h posted))
delivers_less h now posted before left p out old mid new halt so first line part =
    delivers_part h now posted left p old mid new halt (subst (λ (ps : List Posted). DeliveredSo h posted now ps old mid) first so) (subst (λ (v : Out). Puts mid new (Err halt) (out_line v)) line part)
