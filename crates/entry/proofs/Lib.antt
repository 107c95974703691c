pub mod OverRecords
