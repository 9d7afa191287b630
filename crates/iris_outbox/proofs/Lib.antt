pub mod MadeReady
