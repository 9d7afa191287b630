-- The document that cites tell of.
use Rattle.std.specs.Prelude.{ℕ, List, find, Option, option_map}
use Rattle.std.specs.Option.{option_map_or}
use Rattle.std.specs.Cmp.Lexicographic.{pointwise}
use Rattle.iris_base.specs.declared.name.Label.{Label}
use Rattle.iris_base.specs.declared.cite.Cite.{Cite}
use Rattle.iris_base.specs.NameOrder.{label_eq}
use Rattle.iris_tree.specs.Universe.{Node}
use Rattle.iris_tree.specs.Document.{with_locals}
use Rattle.iris_book.specs.Book.{History, update_count, value_at}

-- the version that these cites tell of a node, where one of them is of it
abbrev pub cited_version : List Cite → List Label → Option ℕ
cited_version cites name = option_map (λ c. c.version) (find (λ c. pointwise label_eq c.name name) cites)

-- that version, or the node's newest where no cite is of it
abbrev pub version_by : History → List Cite → List Label → ℕ
version_by h cites name = option_map_or (λ version. version) (cited_version cites name) (update_count h name)

-- the document in which each cited node has the value of its cited version, and each other node its newest value
abbrev pub document_of_cites : History → List Cite → Node
document_of_cites h cites = with_locals h.start (λ name old. option_map_or (λ local. local) (value_at h name (version_by h cites name)) old)
