-- What a city's history by the protocol says of its own tables: who owns a node, where an ask is parked, and what is pending.
use Rattle.std.proofs.Common.{◌≡◌, ◌≢◌, ◌⊎◌, ℕ, ◌<◌, Bool, true, false, cond, ◌||◌, is_some, nat_eq, List, [], ◌∷◌, map, Option, Some, None, IsSome, refl, sym, ap, ◌∙◌, subst, inl, inr, arith}
use Rattle.std.specs.Prelude.{option_map, nat_le}
use Rattle.std.specs.List.{filter_map}
use Rattle.std.specs.BTreeMap.{is_at}
use Rattle.std.specs.Ordering.{nat_cmp}
use Rattle.std.proofs.lemmas.Bool.{eqb-true}
use Rattle.std.proofs.lemmas.Bool.Decides.{nat_tests}
use Rattle.iris_base.specs.declared.name.Label.{Label}
use Rattle.iris_need.specs.declared.need.Need.{Need}
use Rattle.iris_migrate.specs.declared.key.Key.TheVariants as keys
use Rattle.iris_migrate.specs.declared.message.Handover.{Handover as Handed}
use Rattle.iris_migrate.specs.declared.message.Message.{Message}
use Rattle.iris_migrate.specs.declared.message.Message.TheVariants.{Query, Ask, Reply, Update, Handover}
use Rattle.iris_migrate.specs.Messages.{is_among}
use Rattle.iris_migrate.specs.Titles.{is_parked}
use Rattle.iris_gather.specs.declared.entries.OpenGather.{OpenGather}
use Rattle.iris_gather.specs.Gathers.{need_at}
use Rattle.iris_gather.specs.OpenGathers.{awaits}
use Rattle.iris_protocol.specs.Table.{AgentId, agents, Each, Among}
use Rattle.iris_protocol.specs.World as model
use Rattle.iris_protocol.specs.World.{last_number}
use Rattle.iris_protocol.specs.Good.{IsHeld, IsInTransit, NodeGood, IsSound, KnownDemand, pending_at}
use Rattle.iris_protocol.specs.Program.{Known}
use Rattle.iris_protocol.proofs.Tables.{split}
use Rattle.iris_protocol.proofs.Nodes.{holder, handover_is}
use Rattle.iris_runs.specs.Letters.{gather_of, mail_of, letter_of}
use Rattle.iris_runs.specs.Worlds.{Sent, World, program_of}
use Rattle.iris_runs.proofs.KnownCities.{seat_known, book_known, post_good}

-- ---- owners

last_known : (w : World) (accepted : List model.Entry) (known : Known (program_of w accepted)) (a : AgentId) (name : List Label) → ((known.world.node name).seat a).last ≡ ((w.agent a).seat name).last
last_known w accepted known a name = ap (λ (s : model.Seat). s.last) (seat_known w accepted known a name)

some_is : {A : Type 0} (o : Option A) → IsSome o → (x : A) × (o ≡ Some x)
some_is None h = absurd (cc)
some_is (Some x) h = (x, refl)

-- where an agent owns a node, no other one does
pub others_own_none : (w : World) (accepted : List model.Entry) → Known (program_of w accepted) → (a b : AgentId) (name : List Label) → IsSome ((w.agent a).seat name).last → b ≢ a → ((w.agent b).seat name).last ≡ None
others_own_none w accepted known a b name owns apart = sym (last_known w accepted known b name) ∙ good.alone b (λ same. apart (same ∙ sym held.0))
  where
    good : NodeGood (known.world.node name)
    good = known.good.titles.nodes name

    last : (number : ℕ) × (((w.agent a).seat name).last ≡ Some number)
    last = some_is ((w.agent a).seat name).last owns

    held : (a ≡ (known.world.node name).owner) × IsHeld (known.world.node name)
    held = holder (known.world.node name) a last.0 good (last_known w accepted known a name ∙ last.1)

-- the number of the last update that an owner has is the last that was accepted
pub owner_number : (w : World) (accepted : List model.Entry) → Known (program_of w accepted) → (a : AgentId) (name : List Label) (number : ℕ) → ((w.agent a).seat name).last ≡ Some number → number ≡ last_number name accepted
owner_number w accepted known a name number is = newest ∙ known.good.booked.newest name ∙ ap (last_number name) (book_known w accepted known)
  where
    node : model.Node
    node = known.world.node name

    held : (a ≡ node.owner) × IsHeld node
    held = holder node a number (known.good.titles.nodes name) (last_known w accepted known a name ∙ is)

    newest : number ≡ node.newest
    newest = let same : Some number ≡ Some node.newest = sym (last_known w accepted known a name ∙ is) ∙ ap (λ (b : AgentId). (node.seat b).last) held.0 ∙ held.1.last in cc

-- while a handover is on its way that its addressee would take, no agent owns the node
pub none_owns : (w : World) (accepted : List model.Entry) → Known (program_of w accepted) → (k : ℕ) (sent : Sent) (handed : Handed) → w.post k ≡ Some sent → sent.message ≡ Handover handed
    → nat_le handed.epoch ((w.agent sent.to).seat handed.name).taken ≡ false → (a : AgentId) → ((w.agent a).seat handed.name).last ≡ None
none_owns w accepted known k sent handed there is free a = sym (last_known w accepted known a handed.name) ∙ by (split agents a node.owner)
  where
    node : model.Node
    node = known.world.node handed.name

    good : NodeGood node
    good = known.good.titles.nodes handed.name

    sound : IsSound known.world.node sent.to (model.handover handed.name handed.epoch handed.last)
    sound = subst (λ (message : Message). IsSound known.world.node sent.to (letter_of message)) is (post_good w accepted known k sent there).sound

    same : (node.seat sent.to).taken ≡ ((w.agent sent.to).seat handed.name).taken
    same = ap (λ (s : model.Seat). s.taken) (seat_known w accepted known sent.to handed.name)

    less : (node.seat sent.to).taken < handed.epoch
    less = let s = same in grind arith

    away : IsInTransit node
    away = (handover_is node sent.to handed.epoch handed.last good sound less).3

    by : (a ≡ node.owner) ⊎ (a ≢ node.owner) → (node.seat a).last ≡ None
    by (inl same) = ap (λ (b : AgentId). (node.seat b).last) same ∙ away.last
    by (inr apart) = good.alone a apart

-- ---- parked asks

-- what is parked for a node is known to be for that node
ask_node : (requested : model.RequestTable) (asks : model.AskTable) (name : List Label) (ask : ℕ) (ms : List Message) → Each (λ (m : model.Mail). KnownDemand requested asks name m.demand) (filter_map mail_of ms) → is_among (keys.Ask ask) ms ≡ true
    → (asks.info ask).node ≡ name
ask_node requested asks name ask [] all h = absurd (cc)
ask_node requested asks name ask (Query request asked at epoch floor ∷ ms) all h = ask_node requested asks name ask ms all.1 h
ask_node requested asks name ask (Update request at epoch number changes ∷ ms) all h = ask_node requested asks name ask ms all.1 h
ask_node requested asks name ask (Reply other pieces ∷ ms) all h = ask_node requested asks name ask ms all h
ask_node requested asks name ask (Handover handed ∷ ms) all h = ask_node requested asks name ask ms all h
ask_node requested asks name ask (Ask other from asked start epoch floor ∷ ms) all h = by (nat_eq ask other) refl h (ask_node requested asks name ask ms all.1)
  where
    by : (b : Bool) → nat_eq ask other ≡ b → (b || is_among (keys.Ask ask) ms) ≡ true → (is_among (keys.Ask ask) ms ≡ true → (asks.info ask).node ≡ name) → (asks.info ask).node ≡ name
    by true same h later = ap (λ (i : ℕ). (asks.info i).node) (eqb-true ask other same) ∙ all.0.2
    by false apart h later = later h

-- an ask is parked for one node alone
pub parked_at_one : (w : World) (accepted : List model.Entry) → Known (program_of w accepted) → (a : AgentId) (name other : List Label) (ask : ℕ)
    → is_parked ((w.agent a).seat name) (Some (keys.Ask ask)) ≡ true → is_parked ((w.agent a).seat other) (Some (keys.Ask ask)) ≡ true → name ≡ other
parked_at_one w accepted known a name other ask here there = sym (at name here) ∙ at other there
  where
    at : (n : List Label) → is_parked ((w.agent a).seat n) (Some (keys.Ask ask)) ≡ true → (known.world.asks.info ask).node ≡ n
    at n is = ask_node known.world.requested known.world.asks n ask ((w.agent a).seat n).parked
        (subst (λ (s : model.Seat). Each (λ (m : model.Mail). KnownDemand known.world.requested known.world.asks n m.demand) s.parked) (seat_known w accepted known a n) (known.good.letters.parked n a)) is

-- ---- pending asks

awaits_in : (ask : ℕ) (pending : List (ℕ × Need)) → Among (λ (j : ℕ). j ≡ ask) (map (λ entry. entry.0) pending) → is_some (need_at pending ask) ≡ true
awaits_in ask [] m = absurd m
awaits_in ask (e ∷ es) m = by (is_at (nat_cmp ask) e.0) refl m (awaits_in ask es)
  where
    itself : is_at (nat_cmp ask) ask ≡ true
    itself = grind (arith, nat_tests)

    by : (b : Bool) → is_at (nat_cmp ask) e.0 ≡ b → (e.0 ≡ ask) ⊎ Among (λ (j : ℕ). j ≡ ask) (map (λ entry. entry.0) es) → (Among (λ (j : ℕ). j ≡ ask) (map (λ entry. entry.0) es) → is_some (need_at es ask) ≡ true) → is_some (cond b (Some e.1) (need_at es ask)) ≡ true
    by true same m later = refl
    by false apart (inl same) later = let at : is_at (nat_cmp ask) e.0 ≡ true = ap (is_at (nat_cmp ask)) same ∙ itself in absurd (cc)
    by false apart (inr m) later = later m

-- what the protocol sees pending at a gather is pending there
pub awaits_pending : (ask : ℕ) (one : Option OpenGather) → Among (λ (j : ℕ). j ≡ ask) (pending_at (option_map gather_of one)) → awaits ask one ≡ true
awaits_pending ask None m = absurd m
awaits_pending ask (Some one) m = awaits_in ask one.gather.pending m
