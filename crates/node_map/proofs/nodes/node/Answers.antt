use Rattle.std.proofs.Common.{◌≡◌, ◌∙◌, length, ap, subst, arith}
use Rattle.logic_four.specs.declared.Kind.{Kind}
use Rattle.logic_four.proofs.lemmas.KindLemmas.{few_operands}
use Rattle.node_defs.specs.{declared.groups.Group.Group, Groups.group_at}
use Rattle.node_map.specs.code.{Wires.operands_of, Nodes.node_kind, Nodes.AreFeeds, Tables.HasTable}
use Rattle.node_map.proofs.lemmas.ShapeLemmas.{some_groups, few_groups}
use Rattle.node_map.proofs.MadeNodeLemmas.{group_shaped, made_node, kind_allowed}
use Rattle.node_map.proofs.nodes.node.Goals as goal

pub group_at-group-requires : goal.group_at-group-requires
group_at-group-requires c =
    let n = length (operands_of c.args.net.now c.args.signal) in
    rw c.operands.ensures (record {
      few = few_operands c.args.kind n c.requires.allowed;
      within = omega (arith, c.requires.among, some_groups n);
    })

pub number-requires : goal.number-requires
number-requires c =
    let n = length (operands_of c.args.net.now c.args.signal) in
    rw (c.node_kind.ensures, c.group_at-group.ensures, c.operands.ensures) (record {
      few = (group_shaped c.args.kind n c.args.place c.requires.allowed c.requires.among).few;
      allowed = kind_allowed c.args.kind n c.args.place c.requires.allowed c.requires.among;
      room = c.requires.room;
      known = c.requires.known;
    })

pub feeds-feeds-requires : goal.feeds-feeds-requires
feeds-feeds-requires c =
    let n = length (operands_of c.args.net.now c.args.signal) in
    let shape = group_shaped c.args.kind n c.args.place c.requires.allowed c.requires.among in
    rw (c.group_at-group.ensures, c.operands.ensures) (record {
      numbered = c.requires.numbered;
      there = c.requires.there;
      within = c.requires.within;
      low = omega (arith, few_groups n, few_operands c.args.kind n c.requires.allowed);
      few = shape.few;
      wires = omega (arith, shape.ends, c.requires.among);
    })

pub returns : goal.returns
returns c =
    let ops = operands_of c.args.net.now c.args.signal in
    let kind_is : c.node_kind.result ≡ node_kind c.args.kind (length (operands_of c.args.net.now c.args.signal)) c.args.place =
    c.node_kind.ensures ∙ ap (λ o. node_kind c.args.kind (length o) c.args.place) c.operands.ensures in
    let group_is : c.group_at-group.result ≡ group_at (length (operands_of c.args.net.now c.args.signal)) c.args.place =
    c.group_at-group.ensures ∙ ap (λ o. group_at (length o) c.args.place) c.operands.ensures in
    let has : HasTable c.number.new.self.shelf.tables (node_kind c.args.kind (length (operands_of c.args.net.now c.args.signal)) c.args.place) (group_at (length (operands_of c.args.net.now c.args.signal)) c.args.place).size c.in_ok-table.table =
    subst (λ (g : Group). HasTable c.number.new.self.shelf.tables (node_kind c.args.kind (length (operands_of c.args.net.now c.args.signal)) c.args.place) g.size c.in_ok-table.table) group_is
    (subst (λ (k : Kind). HasTable c.number.new.self.shelf.tables k c.group_at-group.result.size c.in_ok-table.table) kind_is c.in_ok-table.ensures.number) in
    let are : AreFeeds c.args.numbering.now.names c.args.late c.args.signal ops (group_at (length (operands_of c.args.net.now c.args.signal)) c.args.place) c.feeds-feeds.result =
    subst (λ (g : Group). AreFeeds c.args.numbering.now.names c.args.late c.args.signal (operands_of c.args.net.now c.args.signal) g c.feeds-feeds.result) group_is c.feeds-feeds.ensures in
    record {
      known = c.in_ok-table.ensures.known;
      kept = c.in_ok-table.ensures.kept;
      node = made_node c.args.numbering.now.names c.args.palette.now.shelf.tables c.number.new.self.shelf.tables c.args.late c.args.signal (operands_of c.args.net.now c.args.signal) c.args.kind c.args.place c.in_ok-table.table c.feeds-feeds.result
          has c.in_ok-table.ensures.added are;
    }
