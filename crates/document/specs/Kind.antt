-- What a kind of document is, and the laws that it keeps within a limit.
--   Kind        documents, how two join, how large one is, its vector, how bytes are read, and the update for a vector
--   Writable    a vector that fits a state vector
--   Brings      an update that brings another document up to the join of both
--   Lawful      the laws of a kind, for documents within a limit
use Rattle.std.specs.Prelude.{◌≡◌, ℕ, ◌^◌, ◌≤◌, true, List, length, Ok, Result}
use Rattle.encoding.specs.declared.fault.WireFault.{WireFault}
use Rattle.state_vector.specs.declared.vector.VectorEntry.{VectorEntry}
use Rattle.state_vector.specs.Tables.{all_below, ascends}
use Rattle.state_vector.specs.Vector.{client_of}

-- a kind of document; its limit of size is the host's matter
pub record Kind : Type 1 where
  pub Document : Type 0
  pub empty : Document
  pub join : Document → Document → Document
  pub size : Document → ℕ
  -- what is known of each client, ascending by client
  pub vector : Document → List VectorEntry
  -- what bytes are read as, or why they are unreadable
  pub reading : List ℕ → Result Document WireFault
  -- the bytes that tell whoever has the vector what it lacks
  pub update : Document → List VectorEntry → List ℕ

-- a vector that fits a state vector: at most 64 entries that ascend by client, with ids below 2^53 and clocks of 32 bits
pub record Writable (v : List VectorEntry) : Type 0 where
  pub few : length v ≤ 64
  pub ascending : ascends client_of v ≡ true
  pub ids : all_below client_of (2 ^ 53) v ≡ true
  pub clocks : all_below (λ e. e.clock) (2 ^ 32) v ≡ true

-- the update of d for the vector of e can be read, and joining what it reads to e gives the join of the two
pub record Brings (k : Kind) (d e : k.Document) : Type 0 where
  pub brought : k.Document
  pub readable : k.reading (k.update d (k.vector e)) ≡ Ok brought
  pub enough : k.join e brought ≡ k.join e d

-- the laws of a kind; what is said of updates and vectors holds of documents within the limit
pub record Lawful (k : Kind) (limit : ℕ) : Type 0 where
  pub associative : (x y z : k.Document) → k.join (k.join x y) z ≡ k.join x (k.join y z)
  pub commutative : (x y : k.Document) → k.join x y ≡ k.join y x
  pub idempotent : (x : k.Document) → k.join x x ≡ x
  pub neutral : (x : k.Document) → k.join k.empty x ≡ x
  pub nothing_in_empty : k.size k.empty ≡ 0
  pub brings : (d e : k.Document) → k.size d ≤ limit → Brings k d e
  pub writable : (d : k.Document) → k.size d ≤ limit → Writable (k.vector d)
