pub mod PathLaws
pub mod RecordsLaws
pub mod PlacesLaws
pub mod TableLaws
pub mod HeadLaws
pub mod FormPlaces
pub mod ColumnLaws
pub mod DueLaws
