-- The four bytes of a node: kind (0 token, 1 rule), class or rule number, start, end; and bytes written into a row.
use Rattle.std.specs.Prelude.{ℕ, ◌+◌, List, [], ◌∷◌, ◌++◌, length, take, drop}
use Rattle.derivation.specs.Node as derivation
use Rattle.tree.specs.declared.node.Kind.{Kind}
use Rattle.tree.specs.declared.node.Kind.TheVariants.{Token, Rule}
use Rattle.tree.specs.declared.node.Node.{Node}

-- of each kind of node
abbrev pub kind_bytes : Kind → ℕ → ℕ → List ℕ
kind_bytes (Token class) i j = 0 ∷ class ∷ i ∷ j ∷ []
kind_bytes (Rule number) i j = 1 ∷ number ∷ i ∷ j ∷ []

abbrev pub bytes_of : Node → List ℕ
bytes_of node = kind_bytes node.kind node.start node.end

-- the use of a rule, and a token of a class
abbrev pub rule_use : ℕ → ℕ → ℕ → Node
rule_use number i j = record { kind = Rule number; start = i; end = j }

abbrev pub token_of : ℕ → ℕ → ℕ → Node
token_of class i j = record { kind = Token class; start = i; end = j }

-- of a node of a tree
abbrev pub node_bytes : derivation.NodeValue → List ℕ
node_bytes x = x.kind ∷ x.number ∷ x.start ∷ x.end ∷ []

-- of nodes, one after the other
unfoldable pub bytes : List derivation.NodeValue → List ℕ
bytes [] = []
bytes (x ∷ nodes) = node_bytes x ++ bytes nodes

-- the row with these bytes from a place on, and all else as it was
unfoldable pub wrote : List ℕ → ℕ → List ℕ → List ℕ
wrote row at written = take at row ++ (written ++ drop (at + length written) row)
