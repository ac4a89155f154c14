-- Which tree is shown: the document's choice at every node, said of all rules and all divisions.
use Rattle.std.specs.Prelude.{ℕ, suc, ◌-◌, ◌≤◌, ◌<◌, ◌≡◌, List, [], ◌∷◌, length, get_or}
use Rattle.derivation.specs.Grammar.{Grammar, IsRule}
use Rattle.derivation.specs.Tree.{Tree, Child, Children, node, token, category, stop, then}
use Rattle.derivation.specs.Depth.{Depth}

-- a symbol derives i..j, and a category does so with a depth below h
pub data ChildServes (g : Grammar) (w : List ℕ) (h : ℕ) : ℕ → ℕ → ℕ → Type 0 where
  token_serves : {c i : ℕ} → c < 128 → i < length w → get_or w i 0 ≡ c → ChildServes g w h c i (suc i)
  category_serves : {c i j d : ℕ} → 128 ≤ c → Depth g w (c - 128) i j d → d < h → ChildServes g w h c i j

-- a division of i..j among symbols, given by its list of child ends, one for each symbol, gives every category child a depth below h
pub data Serves (g : Grammar) (w : List ℕ) (h : ℕ) : List ℕ → ℕ → List ℕ → ℕ → Type 0 where
  none_serves : {i : ℕ} → i ≤ length w → Serves g w h [] i [] i
  next_serves : {c i m j : ℕ} {s ends : List ℕ} → ChildServes g w h c i m → Serves g w h s m ends j → Serves g w h (c ∷ s) i (m ∷ ends) j

-- rule p of A serves with this division of i..j
pub record RuleServes (g : Grammar) (w : List ℕ) (h A i j p : ℕ) (ends : List ℕ) : Type 0 where
  pub symbols : List ℕ
  pub is_rule : IsRule g p A symbols
  pub serves : Serves g w h symbols i ends j

-- one list of child ends comes before another, compared left to right, or equals it
pub data NotAfter : List ℕ → List ℕ → Type 0 where
  ended : NotAfter [] []
  before : {m n : ℕ} {ends others : List ℕ} → m < n → NotAfter (m ∷ ends) (n ∷ others)
  level : {m n : ℕ} {ends others : List ℕ} → m ≡ n → NotAfter ends others → NotAfter (m ∷ ends) (n ∷ others)

-- at a node (A, i, j) of depth h: rule p is the lowest-numbered rule of A for which some division serves,
-- and of its divisions that serve, `ends` comes first
pub record Choice (g : Grammar) (w : List ℕ) (h A i j p : ℕ) (ends : List ℕ) : Type 0 where
  pub depth : Depth g w A i j h
  pub serves : RuleServes g w h A i j p ends
  pub lowest : {q : ℕ} {others : List ℕ} → RuleServes g w h A i j q others → p ≤ q
  pub first : {others : List ℕ} → RuleServes g w h A i j p others → NotAfter ends others

-- the ends of a node's children, left to right
unfoldable pub child_ends : {g : Grammar} {w : List ℕ} {s : List ℕ} {i j : ℕ} → Children g w s i j → List ℕ
child_ends (stop h) = []
child_ends (then {m = m} c cs) = m ∷ child_ends cs

-- at every node of the tree, h being its own depth, its rule and its child ends are the choice
unfoldable mutual
  pub Chosen : {g : Grammar} {w : List ℕ} {A i j : ℕ} → Tree g w A i j → Type 0
  Chosen {g} {w} (node {A} {i} {j} p r cs) = (h : ℕ) × Choice g w h A i j p (child_ends cs) × ChosenChildren cs

  pub ChosenChild : {g : Grammar} {w : List ℕ} {c i j : ℕ} → Child g w c i j → Type 0
  ChosenChild (token k h e) = Unit {0}
  ChosenChild (category k t) = Chosen t

  pub ChosenChildren : {g : Grammar} {w : List ℕ} {s : List ℕ} {i j : ℕ} → Children g w s i j → Type 0
  ChosenChildren (stop h) = Unit {0}
  ChosenChildren (then c cs) = ChosenChild c × ChosenChildren cs
