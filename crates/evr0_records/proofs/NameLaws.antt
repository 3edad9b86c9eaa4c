-- The name of a rule is a text: of the four by computing each, of a table since it may hold the rule.
use Prim.Native.Nat.{ℕ, ◌+◌, ◌-◌, ◌≤◌}
use mathlib.Core.Path.{◌≡◌, refl, sym}
use mathlib.Core.Bool.{false}
use mathlib.Core.List.{List, Memᴰ, map}
use native.Mathlib.Omega.{arith}
use Rattle.std.proofs.Math.Logic.{∥∥₁_elim}
use Rattle.std.proofs.Props.{props}
use lib.ListN.{length, length-take, length-drop}
use Rattle.utf8.specs.Utf8.{decode, decode_from, step_of, lead_of, table, any_control, is_control}
use Rattle.utf8.specs.Scan.{text, scan_of}
use Rattle.utf8.proofs.ScanLaws.{utf8_whole}
use Rattle.local_format.specs.Out.{ok}
use Rattle.local_format.specs.Field.{whole, field_at}
use Rattle.local_format.specs.Text.{bytes_at, text_at}
use Rattle.local_format.proofs.TextLaws.{text_is}
use Rattle.evr0_records.specs.Ruled.{span_by, text_by}
use Rattle.derivation.specs.Rule.{Rule, known, rule_named, four_rules}
use Rattle.derivation.proofs.Rules.{named, of_four}
use Rattle.rule_table.specs.Load.{rule_in}
use Rattle.evr0_rules.specs.There.{RulesThere}
use Rattle.evr0_rules.specs.Maps.{book_rules}
use Rattle.evr0_rules.specs.declared.settle.Rulebook.{Rulebook}
use Rattle.evr0_rules.specs.declared.settle.Rulebook.TheVariants as book
use Rattle.evr0_records.specs.Maps.{chars_by}

-- a text, with as many characters as bytes where their number is told
pub record Plain (told : ℕ → ℕ) (name : List ℕ) : Type 0 where
  pub some : 1 ≤ length name
  pub few : length name ≤ 4096
  pub chars : ℕ
  pub scanned : text chars false ≡ scan_of (decode name)
  pub counted : told (length name) ≡ told chars

-- ---- The four, whose characters are told
plain : (name : List ℕ) → 1 ≤ length name → length name ≤ 4096 → text (length name) false ≡ scan_of (decode name) → Plain (λ n. n) name
plain name h k e = record { some = h; few = k; chars = length name; scanned = e; counted = refl }

each_of_four : (r : Rule) → Memᴰ r four_rules → Plain (λ n. n) r.name
unfolding decode decode_from step_of lead_of table any_control is_control
each_of_four =
    of_four (λ r. Plain (λ n. n) r.name) (plain _ (omega arith) (omega arith) refl) (plain _ (omega arith) (omega arith) refl)
    (plain _ (omega arith) (omega arith) refl) (plain _ (omega arith) (omega arith) refl)

pub four_plain : (name : List ℕ) (r : Rule) → rule_named four_rules name ≡ known r → Plain (λ n. n) name
four_plain name r e =
    let n = named four_rules name r e in
    let p = each_of_four r n.0 in
    rw (← n.1) at p

-- ---- Those of a table, whose characters are not
pub known_plain : (t places : List ℕ) → RulesThere t places → (name : List ℕ) (r : Rule) → rule_named (map (rule_in t) places) name ≡ known r
    → Plain (λ n. 0) name
known_plain t places there name r e =
    let n = named (map (rule_in t) places) name r e in
    let a = (there.allowed r n.0).name in
    let p : Plain (λ n. 0) r.name =
    record { some = a.some; few = omega (arith, a.short); chars = length a.points; scanned = rw (a.is_utf8, a.no_control); counted = refl } in
    rw (← n.1) at p

-- ---- The text of a name that is a rule's
text_known : (told : ℕ → ℕ) (rs : List Rule) (s : List ℕ) (at : ℕ) {len start : ℕ} → whole (record { value = len; next = start }) ≡ field_at 2 s at
    → (r : Rule) → start + len ≤ length s → known r ≡ rule_named rs (bytes_at s start len) → Plain told (bytes_at s start len)
    → ok (record { text = span_by told (record { start = start; len = len; chars = len; next = start + len }); named = known r })
    ≡ text_by told (rule_named rs) s (text_at s at)
text_known told rs s at {len} {start} e r h k p =
    let size : length (bytes_at s start len) ≡ len = rw (length-take, length-drop) (omega arith) in
    let counted : told len ≡ told p.chars = rw size at p.counted in
    let part : start + len - start ≡ len = omega arith in
    let read : ok (record { start = start; len = len; chars = p.chars; next = start + len }) ≡ text_at s at =
    text_is s at len start e (omega (arith, p.some)) (omega (arith, p.few)) _ (utf8_whole s start len h (text p.chars false) (rw part p.scanned)) in
    rw (← read, ← counted, ← k)

pub known_there : (rules : Rulebook) (s : List ℕ) (at : ℕ) {len start : ℕ} → whole (record { value = len; next = start }) ≡ field_at 2 s at
    → (r : Rule) → start + len ≤ length s → known r ≡ rule_named (book_rules rules) (bytes_at s start len)
    → ok (record { text = span_by (chars_by rules) (record { start = start; len = len; chars = len; next = start + len }); named = known r })
    ≡ text_by (chars_by rules) (rule_named (book_rules rules)) s (text_at s at)
known_there book.Four s at e r h k = text_known (λ n. n) four_rules s at e r h k (four_plain _ r (sym k))
known_there (book.Table b) s at e r h k =
    ∥∥₁_elim b.told (Prim.hlevel props) (λ there.
    text_known (λ n. 0) (book_rules (book.Table b)) s at e r h k (known_plain b.rules.table.now b.rules.starts.now there _ r (sym k)))
