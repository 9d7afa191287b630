-- What an evaluation decides over a view.
use Rattle.std.specs.Prelude.{◌≡◌, ◌≢◌, List, []}
use Rattle.iris_base.specs.declared.name.Label.{Label}
use Rattle.iris_tree.specs.Items.{items_at}
use Rattle.iris_tree.specs.Universe.{Node, label_of}
use Rattle.iris_tree.specs.declared.item.Item.{Item}
use Rattle.iris_xpath.specs.Meaning.{selected}
use Rattle.iris_xpath.specs.Syntax.{Syntax}
use Rattle.iris_fragment.specs.declared.piece.Piece.{Piece}
use Rattle.iris_need.specs.Decided.{pieces_for}
use Rattle.iris_need.specs.Documents.{IsDocument, HasIdsAtNodesAlone}
use Rattle.iris_need.specs.Needs.{missing_of, support_of}
use Rattle.iris_need.specs.Pieces.{Pieces, AgreesWith}
use Rattle.iris_need.specs.declared.need.Need.{Need}
use Rattle.iris_need.specs.declared.need.Start.{Start}
use Rattle.iris_gather.specs.declared.verdict.Verdict.{Verdict}
use Rattle.iris_gather.specs.declared.verdict.Verdict.TheVariants.{Done, Asks}

-- the pieces determine these items: they are what the query selects in every document with that top node that agrees with the pieces, where nodes alone have ids
abbrev pub AreDetermined : Syntax → Label → List Piece → List Item → Type 0
AreDetermined query top pieces items = (document : Node) → IsDocument document → HasIdsAtNodesAlone document → label_of document ≡ top → AgreesWith document pieces → items ≡ items_at document (selected document query)

-- Nothing is missing, and this is what the evaluation rests on, and what the query selects where the start is the document: the pieces of what it rests on determine it.
pub record IsDone (query : Syntax) (start : Start) (view : Pieces) (support : List Need) (items : List Item) : Type 0 where
  pub whole : missing_of query start view ≡ []
  pub support_is : support ≡ support_of query start view
  pub items_are : start.name ≡ [] → AreDetermined query start.top (pieces_for view (support_of query start view)) items
  pub no_items : start.name ≢ [] → items ≡ []

-- Something is missing: this, and the other is what the evaluation rests on.
pub record IsUndone (query : Syntax) (start : Start) (view : Pieces) (support missing : List Need) : Type 0 where
  pub some : missing ≢ []
  pub support_is : support ≡ support_of query start view
  pub missing_is : missing ≡ missing_of query start view

-- the verdict of an evaluation from a start over a view
abbrev pub IsVerdict : Syntax → Start → Pieces → Verdict → Type 0
IsVerdict query start view (Done support items) = IsDone query start view support items
IsVerdict query start view (Asks support missing) = IsUndone query start view support missing

-- what the evaluation rests on
abbrev pub rests_on : Verdict → List Need
rests_on (Done support items) = support
rests_on (Asks support missing) = support

-- what is asked for
abbrev pub asks_of : Verdict → List Need
asks_of (Done support items) = []
asks_of (Asks support missing) = missing
