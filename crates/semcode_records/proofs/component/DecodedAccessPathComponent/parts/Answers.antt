-- A field's kind is 1.
use Rattle.semcode_records.proofs.component.DecodedAccessPathComponent.parts.Goals as goal

pub returns-in-FieldSymbol-clause-kind : goal.returns-in-FieldSymbol-clause-kind
returns-in-FieldSymbol-clause-kind c = rw c.in-FieldSymbol.is
