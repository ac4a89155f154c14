-- The user's three demands, each a statement over the results that the questions' own outcomes allow.
use Rattle.std.specs.Prelude.{ℕ, ◌+◌, ◌*◌, ◌-◌, ◌≤◌, ◌<◌, ◌≡◌, ◌↔◌, List, [], ◌∷◌, ◌++◌, map, length, get_or, drop, Ok}
use Rattle.refusals.specs.declared.Row.{Row}
use Rattle.refusals.specs.Told.{Told, answered, refused}
use Rattle.positions.specs.Member.{Member}
use Rattle.positions.specs.Count.{count_below}
use Rattle.positions.specs.BothEnds.{no_end, BothEnds}
use Rattle.derivation.specs.Grammar.{Grammar}
use Rattle.derivation.specs.Tree.{Tree, height}
use Rattle.derivation.specs.Fact.{Fact}
use Rattle.derivation.specs.Depth.{Depth}
use Rattle.derivation.specs.FactList.{Span}
use Rattle.derivation.specs.computed.FactCount.{total}
use Rattle.derivation.specs.Rounds.{RoundsIs}
use Rattle.derivation.specs.Branch.{BranchValue, ForestIs}
use Rattle.derivation.specs.Node.{preorder}
use Rattle.derivation.specs.Choice.{Chosen}
use Rattle.checks.specs.Memory.{chart_size, depths_size}
use Rattle.tree.specs.Bytes.{bytes}
use Rattle.forest.specs.declared.Branch.{Branch}
use Rattle.forest.specs.Record.{record_of}
use Rattle.report.specs.declared.job.Job.{Job}
use Rattle.report.specs.Job.{job_of, questions_part}
use Rattle.report.specs.Printed.{refused_line, printed}
use Rattle.demands.specs.Question.{Input, Query, chart, ends, marks, tree, forest, row_before, Result, Allowed}
use Rattle.demands.specs.TurnedDown.{EarlyNumber, LateNumber, Encodes, AllRight, TurnedDown}
use Rattle.demands.specs.Textbook.{Derives, DerivedAre, MarksToken}
use Rattle.demands.specs.Prints.{job_input, PrintsAnswers}

-- past its first entries, as many as `size`, memory is as it was
pub record KeptPast (size : ℕ) (before after : List ℕ) : Type 0 where
  pub long : length after ≡ length before
  pub past : (p : ℕ) → size ≤ p → get_or after p 0 ≡ get_or before p 0

-- a question that tells this has filled the work memory: it answered, or it was turned down by 10 or 11
pub data Fills : Told → Type 0 where
  answers : {values : List ℕ} → Fills (answered values)
  late : {row : Row} → LateNumber row.number → Fills (refused row)

-- Demand 1. Grammar, line and questions may be any bytes and numbers.
pub record Demand1 : Type 0 where
  -- whatever is handed in, one result is allowed, and no other
  pub one : (x : Input) (q : Query) → (r : Result q) × Allowed x q r × ((s : Result q) → Allowed x q s → s ≡ r)
  -- a question is turned down exactly as the document's table says, by number and place
  pub refusals : (x : Input) (q : Query) (r : Result q) → Allowed x q r →
      (row : Row) → (r.told ≡ refused row) ↔ TurnedDown x q row
  -- after any refusal the row that is lent for marks, nodes or records is as it was
  pub row : (x : Input) (q : Query) (r : Result q) → Allowed x q r →
      (row : Row) → r.told ≡ refused row → r.row ≡ row_before q
  -- after 1 to 9 and 14 the work memory is as it was, too
  pub work : (x : Input) (q : Query) (r : Result q) → Allowed x q r →
      (row : Row) → r.told ≡ refused row → EarlyNumber row.number → (r.words ≡ x.words) × (r.depths ≡ x.depths)
  -- it is filled exactly when all that is looked at before is right
  pub fills : (x : Input) (q : Query) (r : Result q) → Allowed x q r →
      Fills r.told ↔ ((G : Grammar) × AllRight G x q)
  -- and past the chart and the depths of the line it is then as it was
  pub past : (x : Input) (q : Query) (r : Result q) → Allowed x q r → (G : Grammar) → AllRight G x q →
      KeptPast (chart_size (length G.categories) (length x.line)) x.words r.words
      × KeptPast (depths_size (length G.categories) (length x.line)) x.depths r.depths
  -- of a job that was read, the program prints a refusal of grammar, line or memory as the only line
  pub output : (input : List ℕ) (job : Job) → job_of input ≡ Ok job →
      (row : Row) → TurnedDown (job_input input job) chart row → printed input ≡ refused_line row

-- a question on x that filled the work memory ends with r; G is the grammar
pub record Reports (G : Grammar) (x : Input) (q : Query) (r : Result q) : Type 0 where
  pub grammar : Encodes G x.grammar
  pub allowed : Allowed x q r
  pub fills : Fills r.told

-- a row that shows exactly the ends of A from i, how many they are, the smallest and the largest; either is 255 exactly where there is none
pub record ShowsEnds (G : Grammar) (line : List ℕ) (A i row count smallest largest : ℕ) : Type 0 where
  pub each : (j : ℕ) → Member row j ↔ Derives G line A i j
  pub counted : count ≡ count_below 64 row
  pub both : BothEnds row smallest largest
  pub smallest_none : (smallest ≡ no_end) ↔ ((j : ℕ) → ¬ Derives G line A i j)
  pub largest_none : (largest ≡ no_end) ↔ ((j : ℕ) → ¬ Derives G line A i j)

-- a mark for each token, all past them as it was, and the number of ones
pub record ShowsMarks (G : Grammar) (line : List ℕ) (secret : ℕ) (row row' : List ℕ) : Type 0 where
  pub each : (t : ℕ) → t < length line → MarksToken G line t (get_or row' t 0)
  pub past : KeptPast (length line) row row'
  pub counted : secret ≡ total (λ t. get_or row' t 0) (length line)

-- Demand 2. A category is reported from one place to another exactly when the grammar derives those tokens from it, in the textbook sense.
pub record Demand2 : Type 0 where
  -- bit j of word A×(n+1)+i is set exactly when A rewrites to the tokens of i..j
  pub words : {G : Grammar} {x : Input} {q : Query} {r : Result q} → Reports G x q r →
      (A i j : ℕ) → A < length G.categories → i ≤ length x.line →
      Member (get_or r.words (A * (length x.line + 1) + i) 0) j ↔ Derives G x.line A i j
  -- Chart tells rounds, and counts exactly these
  pub facts : {G : Grammar} {x : Input} {r : Result chart} → Reports G x chart r →
      (values : List ℕ) → r.told ≡ answered values →
      (rounds : ℕ) × (facts : List Span) × (values ≡ rounds ∷ length facts ∷ []) × DerivedAre G x.line facts
  -- Ends tells the row of exactly the ends of A from i, their number, the smallest and the largest
  pub ends : {G : Grammar} {x : Input} {A i : ℕ} {r : Result (ends A i)} → Reports G x (ends A i) r →
      (values : List ℕ) → r.told ≡ answered values →
      (row : ℕ) × (count : ℕ) × (smallest : ℕ) × (largest : ℕ) × (values ≡ row ∷ count ∷ smallest ∷ largest ∷ [])
      × ShowsEnds G x.line A i row count smallest largest
  -- Marks writes a mark for each token, 1 exactly where it is secret, and tells how many are
  pub marks : {G : Grammar} {x : Input} {row : List ℕ} {r : Result (marks row)} → Reports G x (marks row) r →
      (values : List ℕ) → r.told ≡ answered values →
      (secret : ℕ) × (values ≡ secret ∷ []) × ShowsMarks G x.line secret row r.row
  -- of such a job, the program prints the facts, the marks and, for each question, the tree or the refusal
  pub output : (input : List ℕ) (job : Job) → job_of input ≡ Ok job →
      {G : Grammar} → AllRight G (job_input input job) chart → PrintsAnswers G (job_input input job) (questions_part input job) (printed input)

-- the number kept for (A, i, j)
abbrev pub depth_kept : List ℕ → List ℕ → (A i j : ℕ) → ℕ
depth_kept depths line A i j = get_or depths ((A * (length line + 1) + i) * (length line + 1) + j) 0

-- the number for (A, i, j): the least height of its trees, at most N×(j-i+1) and so at most 32×64, which fits in 16 bits; 0 where it is no fact
pub record LeastHeight (G : Grammar) (line : List ℕ) (A i j depth : ℕ) : Type 0 where
  pub least : Fact G line A i j → Depth G line A i j depth
  pub bounded : depth ≤ length G.categories * (j - i + 1)
  pub fits : depth ≤ 2048
  pub none : ¬ Fact G line A i j → depth ≡ 0

-- a derivation tree of (A, i, j) of exactly this height, with the document's choice at every node; its nodes in preorder are counted and written, all past them as it was
pub record ShowsTree (G : Grammar) (line : List ℕ) (A i j depth nodes : ℕ) (row row' : List ℕ) : Type 0 where
  pub tree : Tree G line A i j
  pub chosen : Chosen tree
  pub high : height tree ≡ depth
  pub counted : nodes ≡ length (preorder tree)
  pub written : row' ≡ bytes (preorder tree) ++ drop (length (bytes (preorder tree))) row

-- exactly the records, ascending, each once, are counted and written, all past them as it was
pub record ListsRecords (G : Grammar) (line : List ℕ) (count : ℕ) (rows rows' : List Branch) : Type 0 where
  pub records : List BranchValue
  pub all : ForestIs G line records
  pub counted : count ≡ length records
  pub written : rows' ≡ map record_of records ++ drop (length records) rows

-- Demand 3. A span's depth is the least height of any derivation tree for it.
pub record Demand3 : Type 0 where
  -- the number kept for a fact is that height
  pub depths : {G : Grammar} {x : Input} {q : Query} {r : Result q} → Reports G x q r →
      (A i j : ℕ) → A < length G.categories → i ≤ length x.line → j ≤ length x.line →
      LeastHeight G x.line A i j (depth_kept r.depths x.line A i j)
  -- Tree writes the nodes of a tree of exactly that height, and tells how many they are
  pub tree : {G : Grammar} {x : Input} {A i j : ℕ} {row : List ℕ} {r : Result (tree A i j row)} → Reports G x (tree A i j row) r →
      (values : List ℕ) → r.told ≡ answered values →
      (nodes : ℕ) × (values ≡ nodes ∷ []) × ShowsTree G x.line A i j (depth_kept r.depths x.line A i j) nodes row r.row
  -- the rounds that Chart tells are the greatest depth, 0 when nothing is found
  pub rounds : {G : Grammar} {x : Input} {r : Result chart} → Reports G x chart r →
      (values : List ℕ) → r.told ≡ answered values →
      (rounds : ℕ) × (facts : ℕ) × (values ≡ rounds ∷ facts ∷ []) × RoundsIs G x.line rounds
  -- Forest writes the records, and tells how many they are
  pub forest : {G : Grammar} {x : Input} {rows : List Branch} {r : Result (forest rows)} → Reports G x (forest rows) r →
      (values : List ℕ) → r.told ≡ answered values →
      (count : ℕ) × (values ≡ count ∷ []) × ListsRecords G x.line count rows r.row
