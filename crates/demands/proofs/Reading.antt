-- A stream of bytes and its operations: as long as each byte is an operation of the upstream model they go side by side, byte by byte, and where that
-- ends the fault stands. Assumes nothing.
use Rattle.std.proofs.Common.{Option, Some, None}
use Prim.Native.Nat.{ℕ, suc, ◌+◌, ◌<◌}
use mathlib.Core.Path.{◌≡◌, refl, sym, ap, ap₂, subst, ◌∙◌}
use mathlib.Core.List.{List, [], ◌∷◌, ◌++◌, map}
use native.Mathlib.Omega.{arith}
use lib.ListN.{length}
use Rattle.ground.proofs.Truths.{differ}
use Rattle.answers.specs.declared.Refusal.{Refusal}
use Rattle.operations.specs.declared.Operation.{Operation}
use Rattle.operations.specs.Operation.{byte_is, byte_of}
use Rattle.operations.proofs.Bytes.{written_read}
use Rattle.rule.specs.Stream.{Stream}
use Rattle.rule.specs.Rule.{every_fence}
use Rattle.runs.proofs.Judging.{OfN, good_is, is_good, AtFault, bad_is}
use Rattle.runs.specs.Bytes.{Judged, good, bad, judged, operations_from, operations, fault_from, fault}
use Rattle.demands.specs.Streams.{StreamIn}

-- all of a stream's fences are below n
abbrev pub Below : ℕ → Stream → Type 0
Below n s = every_fence (λ (f : ℕ). f < n) s

pub own_on : (n : ℕ) (op : Operation) (s : Stream) → OfN n op → Below n s → Below n (op ∷ s)
own_on n (Operation.Access k) s h b = b
own_on n (Operation.Fence f) s h b = (h, b)

pub below_first : (n : ℕ) (op : Operation) (s : Stream) → Below n (op ∷ s) → OfN n op × Below n s
below_first n (Operation.Access k) s b = (tt, b)
below_first n (Operation.Fence f) s b = b

-- what is read of bytes that are one more
pub reads_first : (b : ℕ) (bytes : List ℕ) (op : Operation) (s : Stream) → StreamIn (b ∷ bytes) (op ∷ s) → (byte_is b ≡ Some op) × StreamIn bytes s
reads_first b bytes op s e = ((cc), (cc))

pub reads_on : (b : ℕ) (bytes : List ℕ) (op : Operation) (s : Stream) → byte_is b ≡ Some op → StreamIn bytes s → StreamIn (b ∷ bytes) (op ∷ s)
reads_on b bytes op s e h = ap₂ (λ (x : Option Operation) (l : List (Option Operation)). x ∷ l) e h

-- Bytes that read as operations of the model, and then any others: the operations are these and then those of the others, and the fault is theirs.
pub read_then : (n at : ℕ) (bytes : List ℕ) (s : Stream) (rest : List ℕ) → StreamIn bytes s → Below n s
    → (operations n at (bytes ++ rest) ≡ s ++ operations n (at + length bytes) rest) × (fault n at (bytes ++ rest) ≡ fault n (at + length bytes) rest)
unfolding operations fault
read_then n at [] [] rest e h =
    let z : at ≡ at + 0 = omega arith in
    (ap (λ (k : ℕ). operations n k rest) z, ap (λ (k : ℕ). fault n k rest) z)
read_then n at [] (op ∷ s) rest e h = differ (cc)
read_then n at (b ∷ bytes) [] rest e h = differ (cc)
read_then n at (b ∷ bytes) (op ∷ s) rest e h =
    let first = reads_first b bytes op s e in
    let own = below_first n op s h in
    let j = is_good n at b op first.0 own.0 in
    let more = read_then n (suc at) bytes s rest first.1 own.1 in
    let z : suc at + length bytes ≡ at + suc (length bytes) = omega arith in (
      ap (λ (x : Judged). operations_from x (operations n (suc at) (bytes ++ rest))) j
          ∙ ap (λ (l : Stream). op ∷ l) (more.0 ∙ ap (λ (k : ℕ). s ++ operations n k rest) z),
      ap (λ (x : Judged). fault_from x (fault n (suc at) (bytes ++ rest))) j ∙ more.1 ∙ ap (λ (k : ℕ). fault n k rest) z,
    )

-- Bytes without fault read as their operations, which are the model's.
pub reads_all : (n at : ℕ) (bytes : List ℕ) → fault n at bytes ≡ None → StreamIn bytes (operations n at bytes) × Below n (operations n at bytes)
unfolding operations fault
reads_all n at [] e = (refl, tt)
reads_all n at (b ∷ bytes) e = look (judged n at b) refl (λ h. reads_all n (suc at) bytes h) e
  where
    ops : Stream
    ops = operations n (suc at) bytes

    look : (j : Judged) → judged n at b ≡ j → (fault n (suc at) bytes ≡ None → StreamIn bytes ops × Below n ops)
        → fault_from j (fault n (suc at) bytes) ≡ None
        → StreamIn (b ∷ bytes) (operations_from j ops) × Below n (operations_from j ops)
    look (good op) h more z =
        let g = good_is n at b op h in
        let m = more z in
        (reads_on b bytes op ops g.0 m.0, own_on n op ops g.1 m.1)
    look (bad why) h more z = differ (cc)

-- The first byte at fault: what stands before it are all the operations.
pub record FaultAt (n at : ℕ) (bytes : List ℕ) (why : Refusal) : Type 0 where
  pub first : List ℕ
  pub byte : ℕ
  pub rest : List ℕ
  pub split : bytes ≡ first ++ (byte ∷ rest)
  pub reads : StreamIn first (operations n at bytes)
  pub below : Below n (operations n at bytes)
  pub at_fault : AtFault n (at + length first) byte why

pub faults : (n at : ℕ) (bytes : List ℕ) (why : Refusal) → fault n at bytes ≡ Some why → FaultAt n at bytes why
unfolding operations fault
faults n at [] why e = differ (cc)
faults n at (b ∷ bytes) why e = look (judged n at b) refl (λ h. faults n (suc at) bytes why h) e
  where
    ops : Stream
    ops = operations n (suc at) bytes

    whole : (j : Judged) → judged n at b ≡ j → operations_from (judged n at b) ops ≡ operations_from j ops
    whole j h = ap (λ (x : Judged). operations_from x ops) h

    look : (j : Judged) → judged n at b ≡ j → (fault n (suc at) bytes ≡ Some why → FaultAt n (suc at) bytes why)
        → fault_from j (fault n (suc at) bytes) ≡ Some why → FaultAt n at (b ∷ bytes) why
    look (good op) h more z =
        let g = good_is n at b op h in
        let m = more z in
        let k : suc at + length m.first ≡ at + suc (length m.first) = omega arith in
        record {
          first = b ∷ m.first;
          byte = m.byte;
          rest = m.rest;
          split = ap (λ (l : List ℕ). b ∷ l) m.split;
          reads = subst (StreamIn (b ∷ m.first)) (sym (whole (good op) h)) (reads_on b m.first op ops g.0 m.reads);
          below = subst (Below n) (sym (whole (good op) h)) (own_on n op ops g.1 m.below);
          at_fault = subst (λ (i : ℕ). AtFault n i m.byte why) k m.at_fault;
        }
    look (bad other) h more z =
        let same : other ≡ why = cc in
        let k : at ≡ at + 0 = omega arith in
        record {
          first = [];
          byte = b;
          rest = bytes;
          split = refl;
          reads = subst (StreamIn []) (sym (whole (bad other) h)) refl;
          below = subst (Below n) (sym (whole (bad other) h)) tt;
          at_fault = subst (λ (i : ℕ). AtFault n i b why) k (subst (AtFault n at b) same (bad_is n at b other h));
        }

-- One of the operations: the byte that it is, and what stands before it.
pub record OperationAt (n at : ℕ) (bytes : List ℕ) (first : Stream) (op : Operation) : Type 0 where
  pub before : List ℕ
  pub byte : ℕ
  pub rest : List ℕ
  pub split : bytes ≡ before ++ (byte ∷ rest)
  pub reads : StreamIn before first
  pub below : Below n first
  pub is : byte_is byte ≡ Some op

pub operation_at : (n at : ℕ) (bytes : List ℕ) (first : Stream) (op : Operation) (rest : Stream) → operations n at bytes ≡ first ++ (op ∷ rest)
    → OperationAt n at bytes first op
unfolding operations
operation_at n at [] [] op rest e = differ (cc)
operation_at n at [] (x ∷ first) op rest e = differ (cc)
operation_at n at (b ∷ bytes) first op rest e = look (judged n at b) refl first e (λ more h. operation_at n (suc at) bytes more op rest h)
  where
    ops : Stream
    ops = operations n (suc at) bytes

    look : (j : Judged) → judged n at b ≡ j → (first : Stream) → operations_from j ops ≡ first ++ (op ∷ rest)
        → ((more : Stream) → ops ≡ more ++ (op ∷ rest) → OperationAt n (suc at) bytes more op) → OperationAt n at (b ∷ bytes) first op
    look (good o) h [] z again =
        let same : o ≡ op = cc in
        let g = good_is n at b o h in
        record {
          before = [];
          byte = b;
          rest = bytes;
          split = refl;
          reads = refl;
          below = tt;
          is = g.0 ∙ ap (λ (x : Operation). Some x) same;
        }
    look (good o) h (x ∷ more) z again =
        let same : o ≡ x = cc in
        let tail : ops ≡ more ++ (op ∷ rest) = cc in
        let g = good_is n at b o h in
        let m = again more tail in
        record {
          before = b ∷ m.before;
          byte = m.byte;
          rest = m.rest;
          split = ap (λ (l : List ℕ). b ∷ l) m.split;
          reads = reads_on b m.before x more (g.0 ∙ ap (λ (y : Operation). Some y) same) m.reads;
          below = own_on n x more (subst (OfN n) same g.1) m.below;
          is = m.is;
        }
    look (bad why) h [] z again = differ (cc)
    look (bad why) h (x ∷ more) z again = differ (cc)

-- As many bytes as operations.
pub reads_length : (bytes : List ℕ) (s : Stream) → StreamIn bytes s → length bytes ≡ length s
reads_length [] [] e = refl
reads_length [] (op ∷ s) e = differ (cc)
reads_length (b ∷ bytes) [] e = differ (cc)
reads_length (b ∷ bytes) (op ∷ s) e = ap suc (reads_length bytes s (reads_first b bytes op s e).1)

-- One stream alone is read.
pub reads_one : (bytes : List ℕ) (s t : Stream) → StreamIn bytes s → StreamIn bytes t → s ≡ t
reads_one [] [] [] d e = refl
reads_one [] [] (op ∷ t) d e = differ (cc)
reads_one [] (op ∷ s) t d e = differ (cc)
reads_one (b ∷ bytes) [] t d e = differ (cc)
reads_one (b ∷ bytes) (op ∷ s) [] d e = differ (cc)
reads_one (b ∷ bytes) (op ∷ s) (o ∷ t) d e =
    let first : Some op ≡ Some o = sym (reads_first b bytes op s d).0 ∙ (reads_first b bytes o t e).0 in
    let same : op ≡ o = cc in
    ap₂ (λ (x : Operation) (l : Stream). x ∷ l) same (reads_one bytes s t (reads_first b bytes op s d).1 (reads_first b bytes o t e).1)

-- Bytes are those of the operations that they read as.
pub written_bytes : (bytes : List ℕ) (s : Stream) → StreamIn bytes s → map byte_of s ≡ bytes
written_bytes [] [] e = refl
written_bytes [] (op ∷ s) e = differ (cc)
written_bytes (b ∷ bytes) [] e = differ (cc)
written_bytes (b ∷ bytes) (op ∷ s) e =
    let first = reads_first b bytes op s e in
    ap₂ (λ (c : ℕ) (l : List ℕ). c ∷ l) (written_read b op first.0) (written_bytes bytes s first.1)
