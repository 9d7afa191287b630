-- What messages weigh.
use Rattle.std.specs.Prelude.{ℕ, ◌+◌, ◌*◌, List, length, sum_by, Option, Some, None}
use Rattle.iris_tree.specs.LocalText.{local_text}
use Rattle.iris_tree.specs.Changes.{changes_text}
use Rattle.iris_fragment.specs.declared.piece.Full.{Full}
use Rattle.iris_fragment.specs.declared.piece.Piece.{Piece}
use Rattle.iris_xpath.specs.Printed.{printed}
use Rattle.iris_migrate.specs.declared.message.Message.{Message}
use Rattle.iris_migrate.specs.declared.message.Message.TheVariants.{Query, Ask, Reply, Update, Handover}
use Rattle.iris_posts.specs.declared.weights.TheConstants.{MESSAGE_WEIGHT, STATE_WEIGHT, PIECE_WEIGHT, ID_WEIGHT}

-- what the local information of a piece weighs, in bytes
abbrev pub full_weight : Option Full → ℕ
full_weight None = 0
full_weight (Some full) = length (local_text full.local)

-- what a piece weighs
abbrev pub piece_weight : Piece → ℕ
piece_weight piece = PIECE_WEIGHT + ID_WEIGHT * length piece.ids + full_weight piece.full

-- what several pieces weigh together
abbrev pub pieces_weight : List Piece → ℕ
pieces_weight pieces = sum_by piece_weight pieces

-- what a message holds weighs
abbrev pub content_weight : Message → ℕ
content_weight (Query request query name epoch floor) = length (printed query)
content_weight (Ask ask from query start epoch floor) = STATE_WEIGHT * length start.states
content_weight (Reply ask pieces) = pieces_weight pieces
content_weight (Update request name epoch number changes) = length (changes_text changes)
content_weight (Handover handover) = pieces_weight handover.pieces

-- what a message weighs
abbrev pub weight_of : Message → ℕ
weight_of message = MESSAGE_WEIGHT + content_weight message
