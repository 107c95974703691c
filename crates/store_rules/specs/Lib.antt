pub mod StoreRules
