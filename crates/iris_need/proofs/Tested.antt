-- Predicates over the view of a walk.
use Rattle.std.proofs.Common.{◌≡◌, ℕ, ◌+◌, ◌<◌, List, [], ◌∷◌, ◌++◌, map, take, length, get_or, Option, Some, None, sym, ap, ◌∙◌, append-nil}
use Rattle.std.proofs.lemmas.List.{map-append, take_more}
use Rattle.std.proofs.lemmas.List.Elements.{filter_map-append}
use Rattle.std.specs.List.{filter_map}
use Rattle.iris_xpath.specs.declared.value.Value.{Value as CodeValue}
use Rattle.iris_xpath.specs.Meaning.{Value, of_text}
use Rattle.iris_xpath.specs.Values.{value_of}

-- ---- the texts of ends

-- the texts that ends have
abbrev pub texts_of : List (Option (List ℕ)) → List Value
texts_of ends = map of_text (filter_map (λ end. end) ends)

texts_cut : (ends : List (Option (List ℕ))) (i : ℕ) (x : Option (List ℕ)) → i < length ends → x ≡ get_or ends i x → texts_of (take (i + 1) ends) ≡ texts_of (take i ends) ++ texts_of (x ∷ [])
texts_cut ends i x h e =
    ap texts_of (take_more ends i x h ∙ ap (λ (y : Option (List ℕ)). take i ends ++ y ∷ []) (sym e))
    ∙ ap (map of_text) (filter_map-append (λ (end : Option (List ℕ)). end) (take i ends) (x ∷ []))
    ∙ map-append of_text (filter_map (λ end. end) (take i ends)) (filter_map (λ end. end) (x ∷ []))

-- an end without a value
pub text_none : (ends : List (Option (List ℕ))) (i : ℕ) (x : Option (List ℕ)) (vs : List CodeValue) → i < length ends → x ≡ get_or ends i x → x ≡ None → map value_of vs ≡ texts_of (take i ends) → map value_of vs ≡ texts_of (take (i + 1) ends)
text_none ends i x vs h e none sofar =
    sofar ∙ sym (append-nil (texts_of (take i ends))) ∙ ap (λ (y : Option (List ℕ)). texts_of (take i ends) ++ texts_of (y ∷ [])) (sym none) ∙ sym (texts_cut ends i x h e)

-- an end with a value
pub text_some : (ends : List (Option (List ℕ))) (i : ℕ) (x : Option (List ℕ)) (t : List ℕ) (vs new : List CodeValue) (v : CodeValue) → i < length ends → x ≡ get_or ends i x → x ≡ Some t → new ≡ vs ++ v ∷ [] → value_of v ≡ of_text t
    → map value_of vs ≡ texts_of (take i ends) → map value_of new ≡ texts_of (take (i + 1) ends)
text_some ends i x t vs new v h e some pushed is sofar =
    ap (λ (us : List CodeValue). map value_of us) pushed ∙ map-append value_of vs (v ∷ []) ∙ ap (λ (us : List Value). us ++ value_of v ∷ []) sofar ∙ ap (λ (u : Value). texts_of (take i ends) ++ u ∷ []) is
    ∙ ap (λ (y : Option (List ℕ)). texts_of (take i ends) ++ texts_of (y ∷ [])) (sym some) ∙ sym (texts_cut ends i x h e)
