-- Which answers are allowed: what an answer cites was so, and its items are those of the document that it cites.
use Rattle.std.specs.Prelude.{◌≡◌, ℕ, ◌≤◌, List, map, All}
use Rattle.iris_base.specs.declared.cite.Cite.{Cite}
use Rattle.iris_tree.specs.Items.{items_at}
use Rattle.iris_tree.specs.declared.item.Item.{Item}
use Rattle.iris_xpath.specs.Looks.{full_names}
use Rattle.iris_xpath.specs.Meaning.{selected}
use Rattle.iris_xpath.specs.Syntax.{Syntax}
use Rattle.iris_book.specs.Book.{History, update_count, today, HadVersion}
use Rattle.iris_copies.specs.Cited.{document_of_cites}

-- Cites of an answer at this moment, for a floor.
-- Each cited version was held at its stamp, which is not before the floor and not after the moment.
-- In the document of the cites, the cited nodes are those that the query looks into, in the order of names.
pub record AreCites (h : History) (now floor : ℕ) (query : Syntax) (cites : List Cite) : Type 0 where
  pub held : All (λ c. HadVersion h c.name c.version c.stamp) cites
  pub fresh : All (λ c. floor ≤ c.stamp) cites
  pub past : All (λ c. c.stamp ≤ now) cites
  pub names_are : map (λ c. c.name) cites ≡ full_names (document_of_cites h cites) query

-- each cited version is the newest of its node
abbrev pub AreNewest : History → List Cite → Type 0
AreNewest h cites = All (λ c. c.version ≡ update_count h c.name) cites

-- An answer to a query is allowed at this moment, for a floor.
-- It has such cites, and its items are those that the query selects in the document of the cites.
-- Where each cited version is the newest, that document is today's.
pub record IsAllowed (h : History) (now floor : ℕ) (query : Syntax) (items : List Item) (cites : List Cite) : Type 0 where
  pub cites_are : AreCites h now floor query cites
  pub items_are : items ≡ items_at (document_of_cites h cites) (selected (document_of_cites h cites) query)
  pub today_is : AreNewest h cites → document_of_cites h cites ≡ today h
